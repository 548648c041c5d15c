-- What a potential has to satisfy, slot by slot, and the two that theorem 4.2 of source document 000 uses.
use Prim.Native.Nat.{ℕ, ◌+◌, ◌-◌, ◌≤◌, ◌<◌}
use mathlib.Core.Path.{◌≡◌, refl, sym}
use mathlib.Core.Logic.{◌≢◌}
use mathlib.Core.Bool.{cond}
use native.Mathlib.Omega.{arith}
use lib.Dec.{eqb}
use borrow.Author.Tests.{eqb-true, eqb-false, eq-eqb, ne_eqb}
use Rattle.protocol_types.proofs.Laws.{Same, same, apart, same?, choice}

-- A potential of a slot: ψ w b h c for the engine's counter w and block b, the rival's held mark h and block c.
-- f is a fetch's price. The engine is charged F for a fetch, W for a write-back, U for an update.
pub record Potential (f F W U : ℕ) (ψ : ℕ → ℕ → ℕ → ℕ → ℕ) : Type 0 where
  -- empty on both sides
  pub nil : ψ 0 0 0 0 ≡ 0
  -- the rival fetches or drops
  pub take : (w b h c d : ℕ) → w ≤ f → h ≡ 0 → ψ w b 1 d ≤ ψ w b h c + f
  pub drop : (w b c d : ℕ) → w ≤ f → ψ w b 0 d ≤ ψ w b 1 c
  -- the engine fetches a block that the rival has there
  pub fetch : (w b c : ℕ) → (0 < w → b ≢ c) → ψ f c 1 c + F ≤ ψ w b 1 c
  pub fetch-marked : (w b c : ℕ) → (0 < w → b ≢ c) → w ≡ f → ψ f c 1 c + (F + W) ≤ ψ w b 1 c
  -- the writer's counter rises
  pub refill : (w c : ℕ) → ψ f c 1 c ≤ ψ w c 1 c
  -- the payer's counter falls: the rival has that copy too, or not
  pub pay-kept : (w b c : ℕ) → 0 < w → (0 < w - 1 → b ≡ c) → ψ (w - 1) b 1 c + U ≤ ψ w c 1 c + 1
  pub pay : (w a b h c : ℕ) → 0 < w → (h ≡ 1 → a ≢ c) → ψ (w - 1) b h c + U ≤ ψ w a h c
  -- the engine empties a slot that the rival has empty, as at a clear
  pub empty : (w a b c : ℕ) → ψ 0 b 0 c ≤ ψ w a 0 c
  pub empty-marked : (w a b c : ℕ) → w ≡ f → ψ 0 b 0 c + W ≤ ψ w a 0 c

-- the engine's counter where its block is the rival's, else 0
unfoldable pub common : ℕ → ℕ → ℕ → ℕ
common w b c = cond (eqb b c) w 0

module _ (w b c : ℕ) where
  common-same : b ≡ c → common w b c ≡ w
  unfolding common
  common-same e = rw (eq-eqb b c e)

  common-apart : b ≢ c → common w b c ≡ 0
  unfolding common
  common-apart d = rw (ne_eqb b c d)

  -- the same, of a block that is there only while the counter is not 0
  common-kept : (0 < w → b ≡ c) → common w b c ≡ w
  unfolding common
  common-kept n = choice (λ z. z ≡ w) (eqb b c) (λ e. refl) (λ e. go (same? w 0) (eqb-false b c e))
    where
      go : Same w 0 → b ≢ c → 0 ≡ w
      go (same z y) d = sym z
      go (apart z y) d = absurd (d (n (omega arith)))

  common-other : (0 < w → b ≢ c) → common w b c ≡ 0
  unfolding common
  common-other n = choice (λ z. z ≡ 0) (eqb b c) (λ e. go (same? w 0) (eqb-true b c e)) (λ e. refl)
    where
      go : Same w 0 → b ≡ c → w ≡ 0
      go (same z y) e = z
      go (apart z y) e = absurd (n (omega arith) e)

-- ---- what the rival has paid for the engine's fetches to come

unfoldable pub debt : ℕ → ℕ → ℕ → ℕ → ℕ → ℕ
debt f w b h c = cond (eqb h 1) (f - common w b c) 0

module _ (f w b c : ℕ) where
  debt-held : debt f w b 1 c ≡ f - common w b c
  unfolding debt
  debt-held = refl

  debt-none : (h : ℕ) → h ≢ 1 → debt f w b h c ≡ 0
  unfolding debt
  debt-none h e = rw (ne_eqb h 1 e)

debt-pay : (f w a b h c : ℕ) → (h ≡ 1 → a ≢ c) → debt f (w - 1) b h c ≤ debt f w a h c
debt-pay f w a b h c n = go (same? h 1)
  where
    go : Same h 1 → debt f (w - 1) b h c ≤ debt f w a h c
    go (same p q) = rw p (omega (arith, debt-held f (w - 1) b c, debt-held f w a c, common-apart w a c (n p)))
    go (apart p q) = omega (arith, debt-none f (w - 1) b c h p)

pub fetch-potential : (f : ℕ) → Potential f f 0 0 (debt f)
fetch-potential f = record {
  nil = debt-none f 0 0 0 0 (omega arith);
  take = λ w b h c d l e. omega (arith, debt-held f w b d);
  drop = λ w b c d l. omega (arith, debt-none f w b d 0 (omega arith));
  fetch = λ w b c n. omega (arith, full c, debt-held f w b c, common-other w b c n);
  fetch-marked = λ w b c n m. omega (arith, full c, debt-held f w b c, common-other w b c n);
  refill = λ w c. omega (arith, full c);
  pay-kept = λ w b c l n. omega (arith, debt-held f (w - 1) b c, common-kept (w - 1) b c n, debt-held f w c c, common-same w c c refl);
  pay = λ w a b h c l n. omega (arith, debt-pay f w a b h c n);
  empty = λ w a b c. omega (arith, debt-none f 0 b c 0 (omega arith));
  empty-marked = λ w a b c e. omega (arith, debt-none f 0 b c 0 (omega arith));
}
  where
    full : (c : ℕ) → debt f f c 1 c ≡ 0
    full c = omega (arith, debt-held f f c c, common-same f c c refl)

-- ---- what the rival has paid for the engine's updates and write-backs to come

unfoldable pub load : ℕ → ℕ → ℕ → ℕ → ℕ → ℕ
load f w b h c = cond (eqb h 1) (f + (w - common w b c)) w

module _ (f w b c : ℕ) where
  load-held : load f w b 1 c ≡ f + (w - common w b c)
  unfolding load
  load-held = refl

  load-none : (h : ℕ) → h ≢ 1 → load f w b h c ≡ w
  unfolding load
  load-none h e = rw (ne_eqb h 1 e)

load-pay : (f w a b h c : ℕ) → 0 < w → (h ≡ 1 → a ≢ c) → load f (w - 1) b h c + 1 ≤ load f w a h c
load-pay f w a b h c l n = go (same? h 1)
  where
    go : Same h 1 → load f (w - 1) b h c + 1 ≤ load f w a h c
    go (same p q) = rw p (omega (arith, load-held f (w - 1) b c, load-held f w a c, common-apart w a c (n p)))
    go (apart p q) = omega (arith, load-none f (w - 1) b c h p, load-none f w a c h p)

pub update-potential : (f g : ℕ) → g ≤ f → Potential f 0 g 1 (load f)
update-potential f g le = record {
  nil = load-none f 0 0 0 0 (omega arith);
  take = λ w b h c d l e. omega (arith, load-held f w b d, load-none f w b c h (omega arith));
  drop = λ w b c d l. omega (arith, load-none f w b d 0 (omega arith), load-held f w b c);
  fetch = λ w b c n. omega (arith, full f c, load-held f w b c, common-other w b c n);
  fetch-marked = λ w b c n m. omega (arith, full f c, load-held f w b c, common-other w b c n);
  refill = λ w c. omega (arith, full f c, full w c);
  pay-kept = λ w b c l n. omega (arith, load-held f (w - 1) b c, common-kept (w - 1) b c n, full w c);
  pay = λ w a b h c l n. load-pay f w a b h c l n;
  empty = λ w a b c. omega (arith, load-none f 0 b c 0 (omega arith));
  empty-marked = λ w a b c e. omega (arith, load-none f 0 b c 0 (omega arith), load-none f w a c 0 (omega arith));
}
  where
    full : (w c : ℕ) → load f w c 1 c ≡ f
    full w c = omega (arith, load-held f w c c, common-same w c c refl)
