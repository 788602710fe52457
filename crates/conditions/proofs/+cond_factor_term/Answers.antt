use Rattle.std.proofs.Common.{rules, refl, Ok, Err, ap, ◌∙◌, arith}
use lib.Bits.{bit_and, bit_or}
use Rattle.std.proofs.lemmas.Result.{err_from_is_err_and}
use Rattle.tokens.specs.Streams.{left}
use Rattle.conditions.specs.Conditions.{term_of, factor_at}
use Rattle.conditions.proofs.Eats.{term_eats, factor_eats}
use Rattle.conditions.proofs.Conds.{group_open, told_err}
use Rattle.conditions.proofs.+cond_factor_term.Goals as goal

pub cond-joined-requires : goal.cond-joined-requires
cond-joined-requires t c κs = ((refl, tt), (record { at = λ a. omega arith }, (search rules, λ r q x e. term_eats (factor_at c.args.levels) (factor_eats c.args.levels) (left r.now) x.bits (left q.now) e)))

pub cond-returns : goal.cond-returns
cond-returns t c = c.joined.ensures (term_of (factor_at c.args.levels)) bit_or (term_eats (factor_at c.args.levels) (factor_eats c.args.levels)) (λ r x q k. search rules) (λ x y z k. search rules)

pub term-joined-requires : goal.term-joined-requires
term-joined-requires t c κs = ((refl, tt), (record { at = λ a. omega arith }, (search rules, λ r q x e. factor_eats c.args.levels (left r.now) x.bits (left q.now) e)))

pub term-returns : goal.term-returns
term-returns t c = c.joined.ensures (factor_at c.args.levels) bit_and (factor_eats c.args.levels) (λ r x q k. search rules) (λ x y z k. search rules)

pub factor-returns-in_err-expect-in-Group : goal.factor-returns-in_err-expect-in-Group
factor-returns-in_err-expect-in-Group t c =
    let p = err_from_is_err_and c.from_residual-in_err-expect-in-Group.result c.from_residual-in_err-expect-in-Group.ensures.1 in
    told_err _ _ _ c.in_err-expect-in-Group.field-0.0 (p.1 ∙ ap Err p.2)
    (group_open c.args.levels (left c.args.reader.now) _ _ _ c.in_ok-below-in-Group.ensures _ _ _ (c.in_ok-set.ensures ∙ ap (λ o. Ok (o, left c.first_operand.new.reader)) c.in-Group.is) c.in_ok-set-in-Group.ensures c.in_err-expect-in-Group.ensures.told)
