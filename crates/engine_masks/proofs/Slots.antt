-- The masks of tables where one slot changes: those of all other blocks stay, and in that of the slot's block one bit is set or cleared.
-- Assumes nothing.
use Prim.Native.Nat.{ℕ, ◌<◌}
use mathlib.Core.Path.{◌≡◌, sym, ap, ap₂, ◌∙◌}
use mathlib.Core.Logic.{◌≢◌}
use mathlib.Core.Bool.{true, false, ◌&&◌, ◌||◌}
use lib.ListN.{set, length-set}
use lib.Dec.{ltb, eqb}
use borrow.Author.Tests.{eq-eqb, ne_eqb}
use Rattle.protocol_types.specs.Lists.{at, another}
use Rattle.protocol_types.specs.Board.{Fits, slot}
use Rattle.bits.specs.Bits.{with_bit, without_bit}
use Rattle.protocol.specs.Tables.{Tables, counter, block, holds_at, holds}
use Rattle.protocol.specs.Masks.{holders, holders_at, masks_of}
use Rattle.protocol_types.specs.declared.Setup.{Setup}
use Rattle.protocol_types.specs.declared.Block.{Block}
use Rattle.protocol_types.proofs.Laws.{Same, same, apart, same?, at_set_same, at_set_other}
use Rattle.protocol_types.proofs.Board.{slot-inj}
use Rattle.bits.proofs.Bits.{mask-same}
use Rattle.bits.proofs.Bytes.{with-mask, without-mask}
use Rattle.protocol.proofs.Masks.{masks-length, masks-at, masks-are}
use Rattle.engine_masks.specs.Copies.{gained, lost}

-- tables t' are t, but for slot k
pub record Elsewhere (t t' : Tables) (k : ℕ) : Type 0 where
  pub counters : (m : ℕ) → m ≢ k → counter t' m ≡ counter t m
  pub blocks : (m : ℕ) → m ≢ k → (block t' m).0 ≡ (block t m).0

-- slot k holds in t' exactly what it holds in t
abbrev pub SameAt : Tables → Tables → ℕ → Block → Type 0
SameAt t t' k c = holds_at t' k c ≡ holds_at t k c

module _ (s : Setup) (ok : Fits s) (t t' : Tables) (k : ℕ) (e : Elsewhere t t' k) where
  holds-elsewhere : (j : ℕ) (c : Block) → slot s j c ≢ k → holds s t' j c ≡ holds s t j c
  unfolding holds holds_at
  holds-elsewhere j c d = ap₂ (λ x y. ltb 0 x && eqb y c.0) (e.counters (slot s j c) d) (e.blocks (slot s j c) d)

  -- a block of which slot k is the same
  holders-same : (c : Block) → SameAt t t' k c → holders s t' c ≡ holders s t c
  unfolding holders holds
  holders-same c h = mask-same s.processors _ _ (λ j u. go j (same? (slot s j c) k))
    where
      go : (j : ℕ) → Same (slot s j c) k → holds_at t' (slot s j c) c ≡ holds_at t (slot s j c) c
      go j (same p q) = rw p h
      go j (apart p q) = holds-elsewhere j c p

  pub masks-stay : ((c : Block) → SameAt t t' k c) → masks_of s t' ≡ masks_of s t
  masks-stay h = masks-are s t (masks_of s t') (masks-length s t') (λ b u. masks-at s t' b u ∙ holders-same (record { 0 = b }) (h (record { 0 = b })))

  -- slot k is processor i's for block b
  module _ (i : ℕ) (b : Block) (is-k : k ≡ slot s i b) (hb : b.0 < s.blocks) (others : (c : Block) → c ≢ b → SameAt t t' k c) where
    masks-set : (x : ℕ) → x ≡ holders s t' b → set (masks_of s t) b.0 x ≡ masks_of s t'
    masks-set x p =
        masks-are s t' (set (masks_of s t) b.0 x) (length-set (masks_of s t) b.0 x ∙ masks-length s t) (λ c u. go c u (same? c b.0))
      where
        go : (c : ℕ) → c < s.blocks → Same c b.0 → at (set (masks_of s t) b.0 x) c ≡ holders_at s t' c
        go c u (same q r) = rw q (at_set_same (masks_of s t) b.0 x (rw (masks-length s t) hb) ∙ p)
        go c u (apart q r) =
            at_set_other (masks_of s t) b.0 x c q ∙ masks-at s t c u
            ∙ sym (holders-same (record { 0 = c }) (others (record { 0 = c }) (λ (z : record { 0 = c } ≡ b). q (ap (λ (y : Block). y.0) z))))

    here : holds s t' i b ≡ holds_at t' k b
    unfolding holds
    here = rw is-k

    -- the other processors hold b as before
    elsewhere : (j : ℕ) → j ≢ i → holds s t' j b ≡ holds s t j b
    elsewhere j d = holds-elsewhere j b (λ z. d (slot-inj s ok j i b b (z ∙ is-k)))

    pub masks-gain : i < s.processors → holds_at t' k b ≡ true → gained (masks_of s t) b i ≡ masks_of s t'
    unfolding holders
    masks-gain hi h =
        masks-set _
        (ap (λ x. with_bit x i) (masks-at s t b.0 hb) ∙ with-mask s.processors ok.few-processors (λ j. holds s t j b) i hi
        ∙ mask-same s.processors _ _ (λ j u. go j (same? j i)))
      where
        go : (j : ℕ) → Same j i → (eqb j i || holds s t j b) ≡ holds s t' j b
        go j (same p q) = rw (eq-eqb j i p) (sym (rw p (here ∙ h)))
        go j (apart p q) = rw (ne_eqb j i p) (sym (elsewhere j p))

    pub masks-lose : holds_at t' k b ≡ false → lost (masks_of s t) b i ≡ masks_of s t'
    unfolding holders
    masks-lose h =
        masks-set _
        (ap (λ x. without_bit x i) (masks-at s t b.0 hb) ∙ without-mask s.processors ok.few-processors (λ j. holds s t j b) i
        ∙ mask-same s.processors _ _ (λ j u. go j (same? j i)))
      where
        go : (j : ℕ) → Same j i → another i (λ j. holds s t j b) j ≡ holds s t' j b
        go j (same p q) = rw (eq-eqb j i p) (sym (rw p (here ∙ h)))
        go j (apart p q) = rw (ne_eqb j i p) (sym (elsewhere j p))
