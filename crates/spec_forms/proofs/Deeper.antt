-- A number of levels against the greater of two.
use Rattle.std.proofs.Common.{◌≡◌, ◌-◌, ◌<◌, ℕ, suc, true, false, arith}
use Rattle.std.specs.Prelude.{max, nat_lt}

pub one_less : (n a : ℕ) → 0 < n → nat_lt n (suc a) ≡ nat_lt (n - 1) a
one_less n a h = grind arith

pub deeper_first : (n a b : ℕ) → nat_lt n a ≡ true → nat_lt n (max a b) ≡ true
deeper_first n a b h = grind arith

pub deeper_rest : (n a b : ℕ) → nat_lt n a ≡ false → nat_lt n (max a b) ≡ nat_lt n b
deeper_rest n a b h = grind arith
