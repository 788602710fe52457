use Rattle.std.proofs.Common.{rules}
use Rattle.std.proofs.lemmas.Result.{err_from_is_err_and}
use Rattle.tokens.proofs.Positions.{next_from_place}
use Rattle.tokens.proofs.Streams.{bad_from_fault}
use Rattle.tokens.proofs.lent.Reader.next.Goals as goal

pub returns-in_err-token-clause-took : goal.returns-in_err-token-clause-took
returns-in_err-token-clause-took c =
    let p = err_from_is_err_and c.from_residual.result c.from_residual.ensures.1 in
    rw (p.1, p.2) (bad_from_fault _ _ _ (search rules) (next_from_place _ _ _ _ c.run_end-place.ensures.is c.in_err-token.ensures.told))
