use Rattle.std.proofs.Common.{◌∙◌, rules, lit<}
use borrow.Author.Tests.{tests}
use Rattle.requests.proofs.Parts.{reads_none, reads_wrong, reads_more, reads_all}
use Rattle.requests.proofs.atom.tests_of.Goals as goal

pub returns-in_err-atom : goal.returns-in_err-atom
returns-in_err-atom c =
    c.from_residual.ensures
    ∙ reads_wrong _ _ _ _ c.args.word.now c.loop-letters.atom c.loop-letters.yielded c.next.result c.next.ensures.steps c.loop-letters.yielded_by c.into_iter-letters-iterator.ensures.into_iter_gives
    c.split-letters-items.ensures.rest c.split-letters-items.ensures.done c.split-letters-items.ensures.closure (λ x b q k. search (rules, tests)) c.loop-letters.invariant.1
    c.in-Some.letters c.in-Some.is c.in_err-atom.ensures.is

pub loop-letters-preserved : goal.loop-letters-preserved
loop-letters-preserved c = (
  c.in_ok-atom.ensures.small,
  reads_more _ _ _ _ c.args.word.now c.loop-letters.atom c.loop-letters.yielded c.next.result c.next.ensures.steps c.loop-letters.yielded_by c.into_iter-letters-iterator.ensures.into_iter_gives
      c.split-letters-items.ensures.rest c.split-letters-items.ensures.done c.split-letters-items.ensures.closure (λ x b q k. search (rules, tests)) c.loop-letters.invariant.1
      c.in-Some.letters c.in-Some.is c.in_ok-atom.atom c.in_ok-atom.ensures.is,
)

pub loop-letters-init : goal.loop-letters-init
loop-letters-init c = (lit< tt, reads_none c.args.word.now)

pub returns : goal.returns
returns c =
    reads_all _ _ _ _ c.args.word.now c.loop-letters.atom c.loop-letters.yielded c.next.result c.next.ensures.steps c.loop-letters.yielded_by c.into_iter-letters-iterator.ensures.into_iter_gives
    c.split-letters-items.ensures.rest c.split-letters-items.ensures.done c.split-letters-items.ensures.closure (λ x b q k. search (rules, tests)) c.loop-letters.invariant.1
    c.in-None.is
