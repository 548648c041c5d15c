-- How many entries lie on the way back from position v, at most n.
use Rattle.std.specs.Prelude.{ℕ, zero, suc, ◌/◌, cond, List, eqb}
use Rattle.protocol_types.specs.Lists.{at}

unfoldable pub hops : ℕ → List ℕ → ℕ → ℕ
hops zero via v = 0
hops (suc n) via v = cond (eqb v 0) 0 (suc (hops n via (at via v / 18)))
