use Rattle.tokens.specs.Classes.{is_letter, is_digit}
use Rattle.tokens.proofs.token_at.Given as goal

abbrev pub ghost-run_end : goal.ghost-run_end
ghost-run_end a = is_letter

abbrev pub ghost-run_end-2 : goal.ghost-run_end-2
ghost-run_end-2 a = is_digit
