use Rattle.tokens.specs.Classes.{is_blank}
use Rattle.tokens.proofs.lent.Reader.next.Given as goal

abbrev pub ghost-run_end : goal.ghost-run_end
ghost-run_end a = is_blank
