-- Laws of accounts and bills: equal by their fields, what requests can cost, and condition 21 as facts.
use Prim.Native.Nat.{ℕ, ◌+◌, ◌*◌, ◌≤◌}
use mathlib.Core.Path.{◌≡◌}
use mathlib.Core.Bool.{true}
use native.Mathlib.Nat.{mul-le-mul_right, mul-add}
use native.Mathlib.Omega.{arith}
use borrow.Author.Tests.{leb-true, le-leb}
use Rattle.protocol_types.specs.Board.{price_limit, most_write_back_limit, Fits, fetch_price, most_write_back}
use Rattle.protocol.specs.Accounts.{nothing, plus, possible, Spent, bill_of}
use Rattle.protocol_types.specs.declared.Setup.{Setup}
use Rattle.protocol_types.specs.declared.Bill.{Bill}
use Rattle.protocol_types.specs.declared.Account.{Account}
use Rattle.protocol_types.proofs.Laws.{both_true, and-true}

pub account-path : {a c : Account} → a.requests ≡ c.requests → a.fetch ≡ c.fetch → a.write_back ≡ c.write_back → a.update ≡ c.update → a ≡ c
account-path e f g h = λ i. record { requests = e i; fetch = f i; write_back = g i; update = h i }

pub bill-path : {a c : Bill} → a.fetch ≡ c.fetch → a.write_back ≡ c.write_back → a.update ≡ c.update → a ≡ c
bill-path f g h = λ i. record { fetch = f i; write_back = g i; update = h i }

-- ---- what requests can cost

module _ (s : Setup) where
  pub spent-none : Spent s 0 nothing
  spent-none = record { fetch = omega arith; write-back = omega arith; update = omega arith }

  pub spent-plus : (n m : ℕ) (c d : Bill) → Spent s n c → Spent s m d → Spent s (n + m) (plus c d)
  spent-plus n m c d x y = record {
    fetch = omega (arith, x.fetch, y.fetch, mul-add (fetch_price s) n m);
    write-back = omega (arith, x.write-back, y.write-back, mul-add (most_write_back s) n m);
    update = omega (arith, x.update, y.update);
  }

  -- in numbers, for sums that have to fit a machine's
  pub spent-numbers : Fits s → (n : ℕ) (c : Bill) → Spent s n c → (c.fetch ≤ price_limit * n) × (c.write_back ≤ most_write_back_limit * n) × (c.update ≤ n)
  spent-numbers f n c x =
      let p : fetch_price s * n ≤ price_limit * n = mul-le-mul_right n f.few-fetch in
      let w : most_write_back s * n ≤ most_write_back_limit * n = mul-le-mul_right n f.few-write-back in
      (omega (arith, x.fetch), omega (arith, x.write-back), x.update)

-- 21 as facts
abbrev pub Possible : Setup → Account → Type 0
Possible s a = Spent s a.requests (bill_of a)

pub possible-is : (s : Setup) (a : Account) → possible s a ≡ true → Possible s a
unfolding possible
possible-is s a e =
    let x = both_true _ _ e in
    let y = both_true _ _ x.0 in
    record { fetch = leb-true _ _ y.0; write-back = leb-true _ _ y.1; update = leb-true _ _ x.1 }

pub is-possible : (s : Setup) (a : Account) → Possible s a → possible s a ≡ true
unfolding possible
is-possible s a e = and-true (and-true (le-leb _ _ e.fetch) (le-leb _ _ e.write-back)) (le-leb _ _ e.update)
