-- The masks of holders: what they show, by the laws of bits; what a run does with them, by protocol's Masks. Of every setup.
use Prim.Native.Nat.{ℕ, ◌^◌, ◌≤◌, ◌<◌}
use mathlib.Core.Path.{◌≡◌, ap, ◌∙◌}
use mathlib.Core.Logic.{◌≢◌}
use mathlib.Core.Bool.{true, false, ◌&&◌, and-false}
use mathlib.Core.List.{List}
use native.Mathlib.Nat.{pow-le-pow_right}
use native.Mathlib.Omega.{arith}
use lib.ListN.{length}
use lib.Dec.{ltb, eqb}
use borrow.Author.Tests.{eqb-true, eq-eqb, ne_eqb}
use Rattle.protocol_types.specs.Lists.{at}
use Rattle.protocol_types.specs.Bits.{bit_at, mask_of}
use Rattle.protocol_types.specs.Refusals.{no_refusal, unsound_tables}
use Rattle.protocol_types.specs.Board.{setup_refusal}
use Rattle.protocol.specs.Tables.{Tables, sized, holds}
use Rattle.protocol.specs.Soundness.{sound}
use Rattle.protocol.specs.Masks.{holders, masks_of, Masked, masked, with_masks, sized_masked, true_masks, sound_masked}
use Rattle.protocol.specs.Engines.{ended_by, run}
use Rattle.protocol.specs.Runs.{masked_refusal, masked_engine}
use Rattle.competitive.specs.Claims.{HoldersShown, MasksRight}
use Rattle.protocol_types.specs.declared.Setup.{Setup}
use Rattle.protocol_types.specs.declared.Block.{Block}
use Rattle.protocol_types.specs.declared.Request.{Request}
use Rattle.protocol_types.specs.declared.Account.{Account}
use Rattle.protocol_types.proofs.Laws.{Under, under, over, under?, Known, sure, not_so, known, both_true}
use Rattle.protocol_types.proofs.Board.{setup-fits}
use Rattle.bits.proofs.Bits.{bit-out, mask_below, mask-bit}
use Rattle.protocol.proofs.Masks.{masks-length, masks-at, true-masks, fresh-masked, masked-checked, masked-run, masked-runs, masked-outcomes}

-- ---- what they show

module _ (s : Setup) (t : Tables) (b : Block) (below : b.0 < s.blocks) where
  mask_is : at (masks_of s t) b.0 ≡ mask_of s.processors (λ i. holds s t i b)
  unfolding holders
  mask_is = masks-at s t b.0 below

  byte : s.processors ≤ 8 → at (masks_of s t) b.0 < 256
  byte few =
      let p : 2 ^ s.processors ≤ 2 ^ 8 = pow-le-pow_right (omega arith) few in
      rw mask_is (omega (arith, p, mask_below s.processors (λ i. holds s t i b)))

  bits : (i : ℕ) → bit_at (at (masks_of s t) b.0) i ≡ ltb i s.processors && holds s t i b
  bits i = rw mask_is (go (under? i s.processors))
    where
      go : Under i s.processors → bit_at (mask_of s.processors (λ i. holds s t i b)) i ≡ ltb i s.processors && holds s t i b
      go (under l e) = mask-bit s.processors (λ i. holds s t i b) i l ∙ rw e
      go (over l e) = bit-out s.processors _ i (mask_below s.processors (λ i. holds s t i b)) l ∙ rw e

holders-shown : (s : Setup) (t : Tables) → HoldersShown s t
holders-shown s t = record {
  many = masks-length s t;
  bytes = λ accepted b below. byte s t b below (setup-fits s accepted).few-processors;
  bits = λ b i below. bits s t b below i;
}

-- ---- what a run does with them

module _ (s : Setup) (x : Masked) (a : Account) (qs : List Request) (vs : List ℕ) where
  refused : masked_refusal s x a (length qs) vs ≢ no_refusal → run (masked_engine s) x a qs vs ≡ ended_by (masked_refusal s x a (length qs) vs) x a vs
  unfolding run
  refused d = rw (ne_eqb _ _ d)

  -- the test of 20 fails where a mask is false
  false-masks : sized_masked s x ≡ true → x.masks ≢ masks_of s x.tables → sound_masked s x ≡ false
  unfolding sized_masked sound_masked
  false-masks e d = go (known (true_masks s x))
    where
      l : length x.masks ≡ s.blocks
      l = eqb-true _ _ (both_true (sized s x.tables) (eqb (length x.masks) s.blocks) e).1

      go : Known (true_masks s x) → sound s x.tables && true_masks s x ≡ false
      go (sure p) = absurd (d (true-masks s x l p))
      go (not_so p) = rw p (and-false (sound s x.tables))

  unsound : setup_refusal s ≡ no_refusal → sized_masked s x ≡ true → length vs ≡ length qs → x.masks ≢ masks_of s x.tables
      → run (masked_engine s) x a qs vs ≡ ended_by unsound_tables x a vs
  unfolding run masked_refusal
  unsound accepted e l d = rw (accepted, e, eq-eqb _ _ l, false-masks e d)

  left : masked_refusal s x a (length qs) vs ≡ no_refusal → (run (masked_engine s) x a qs vs).tables ≡ with_masks s (run (masked_engine s) x a qs vs).tables.tables
  left e =
      let m : x ≡ with_masks s x.tables = ap (masked x.tables) (masked-checked s x a (length qs) vs e).masks in
      let z : run (masked_engine s) x a qs vs ≡ run (masked_engine s) (with_masks s x.tables) a qs vs = ap (λ (y : Masked). run (masked_engine s) y a qs vs) m in
      rw (z ∙ masked-run s x.tables a qs vs)

pub masks-right : (s : Setup) → MasksRight s
masks-right s = record {
  holders = holders-shown s;
  starting = fresh-masked s;
  same = masked-run s;
  same-each = masked-outcomes s;
  same-last = masked-runs s;
  unsound = unsound s;
  refused = refused s;
  left = left s;
}
