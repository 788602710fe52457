use Rattle.std.proofs.Common.{◌≡◌, codes, rules, ap}
use Rattle.words.specs.Words.{test_of}
use Rattle.words.proofs.Words.{six_letters}
use Rattle.words.proofs.test_word.Goals as goal

pub returns-in-orphan : goal.returns-in-orphan
returns-in-orphan c =
    let e : codes "orphan" ≡ c.args.letters.now = search (rules, six_letters) in
    ap test_of e

pub returns-in-figure : goal.returns-in-figure
returns-in-figure c =
    let e : codes "figure" ≡ c.args.letters.now = search (rules, six_letters) in
    ap test_of e
