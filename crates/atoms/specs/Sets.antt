-- A set of atoms as a number: its digit of weight 2 ^ a tells whether the atom a is a member.
use Rattle.std.specs.Prelude.{◌≡◌, ℕ, zero, suc, ◌+◌, ◌-◌, ◌/◌, ◌%◌, ◌^◌, ◌<◌, Bool, true, false, cond, ◌==◌}
use Rattle.atoms.specs.declared.Test.{Test}
use Rattle.atoms.specs.declared.Test.TheVariants.{Widow, Orphan, Head, Figure, Note, Last}
use Rattle.atoms.specs.Atoms.{atoms}

-- whether the atom a is a member of the set s
abbrev pub member : ℕ → ℕ → Bool
member s a = s / 2 ^ a % 2 == 1

-- how many of the atoms below n are members of s
unfoldable pub counted : ℕ → ℕ → ℕ
counted s zero = 0
counted s (suc n) = cond (member s n) 1 0 + counted s n

-- t is the least member of s
pub record Least (s t : ℕ) : Type 0 where
  pub there : member s t ≡ true
  pub before : (k : ℕ) → k < t → member s k ≡ false

-- the set of every atom
abbrev pub every : ℕ
every = 2 ^ atoms - 1

-- the set of the atoms at which a test holds
abbrev pub set_of : Test → ℕ
set_of Widow = 0xaaaa_aaaa_aaaa_aaaa
set_of Orphan = 0xcccc_cccc_cccc_cccc
set_of Head = 0xf0f0_f0f0_f0f0_f0f0
set_of Figure = 0xff00_ff00_ff00_ff00
set_of Note = 0xffff_0000_ffff_0000
set_of Last = 0xffff_ffff_0000_0000
