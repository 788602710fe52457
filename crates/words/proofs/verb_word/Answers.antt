use Rattle.std.proofs.Common.{◌≡◌, codes, rules, ap}
use Rattle.words.specs.Words.{verb_of}
use Rattle.words.proofs.Words.{six_letters, seven_letters}
use Rattle.words.proofs.verb_word.Goals as goal

pub returns-in-column : goal.returns-in-column
returns-in-column c =
    let e : codes "column" ≡ c.args.letters.now = search (rules, six_letters) in
    ap verb_of e

pub returns-in-hyphen : goal.returns-in-hyphen
returns-in-hyphen c =
    let e : codes "hyphen" ≡ c.args.letters.now = search (rules, six_letters) in
    ap verb_of e

pub returns-in-feather : goal.returns-in-feather
returns-in-feather c =
    let e : codes "feather" ≡ c.args.letters.now = search (rules, seven_letters) in
    ap verb_of e
