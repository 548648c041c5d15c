-- Another holder as a search for the first processor that passes; the step of the search for the payer; and the loops over the set bits of a block's true
-- mask (laws of visits): what they have found up to a bit, and that at the end it is the payer, the owner, the updated copies. Assumes nothing.
use Prim.Native.Nat.{ℕ, suc, ◌≤◌, ◌<◌}
use mathlib.Core.Path.{◌≡◌, refl, sym, ap, ◌∙◌}
use mathlib.Core.Logic.{◌≢◌}
use mathlib.Core.Bool.{Bool, true, false}
use mathlib.Core.List.{List}
use native.Mathlib.Numerals.{add-one}
use native.Mathlib.Omega.{arith}
use lib.ListN.{set}
use lib.Dec.{ltb}
use borrow.Author.Tests.{lt-ltb, le-ltb, eq-eqb, ne_eqb}
use Rattle.protocol_types.specs.Lists.{first, other}
use Rattle.protocol_types.specs.Bits.{mask_of}
use Rattle.protocol_types.specs.Board.{slot, word_index}
use Rattle.protocol.specs.Tables.{Tables, mark, holds, sharing, marked}
use Rattle.protocol.specs.Masks.{holders}
use Rattle.protocol.specs.Rules.{payer, owner, updated_copies}
use Rattle.protocol_types.specs.declared.Setup.{Setup}
use Rattle.protocol_types.specs.declared.Block.{Block}
use Rattle.bits.specs.Bits.{without_bit}
use Rattle.protocol_types.proofs.Search.{search-started, search-found, search-passed, search-ended}
use Rattle.bits.proofs.Bytes.{without-mask}
use Rattle.bits.proofs.Visits.{Visited, Steady, Turn, visits-end}
use Rattle.std.specs.Prelude.{Option, Some, None, is_some, unwrap_or, IfSome}
use Rattle.engine_holders.specs.Searches.{other_holds, other_holder, weakest_below, weaker, owns, owner_from}

-- a number below n was found, or none
pub some_below : (r : Option ℕ) (n : ℕ) → IfSome r (λ j. j < n) → is_some r ≡ ltb (unwrap_or r n) n
some_below None n h = sym (le-ltb n n (omega arith))
some_below (Some j) n h = sym (lt-ltb j n h)

module _ (s : Setup) (t : Tables) (b : Block) where
  pub other-holder-is : (i : ℕ) → first s.processors (other_holds s t i b) ≡ other_holder s t i b
  unfolding other_holder other other_holds
  other-holder-is i = refl

  pub sharing_is : (i : ℕ) → ltb (other_holder s t i b) s.processors ≡ sharing s t i b
  unfolding other_holder sharing
  sharing_is i = refl

  -- ---- the loops

  pub payer-search-started : (i : ℕ) → s.processors ≡ weakest_below s t i b 0
  unfolding weakest_below
  payer-search-started i = refl

  pub owner-search-started : owner_from s t b 0 ≡ owner s t b
  unfolding owner_from owner owns
  owner-search-started = search-started (owns s t b) s.processors

  abbrev H : ℕ → Bool
  H j = holds s t j b

  module _ {mask : ℕ} (true-mask : mask ≡ holders s t b) where
    of-holders : mask ≡ mask_of s.processors H
    unfolding holders
    of-holders = true-mask

    -- over the mask without processor i's bit
    module _ (few : s.processors ≤ 8) (i : ℕ) {others : ℕ} (without : others ≡ without_bit mask i) where
      of_others : others ≡ mask_of s.processors (other_holds s t i b)
      unfolding other_holds
      of_others = without ∙ ap (λ m. without_bit m i) of-holders ∙ without-mask s.processors few H i

      payer-steady : Steady s.processors (other_holds s t i b) (weakest_below s t i b)
      unfolding weakest_below
      payer-steady j h e = rw e

      module _ {upto left k : ℕ} (found : k ≡ weakest_below s t i b upto) where
        pub payer-search-next : {j : ℕ} → Turn s.processors others upto left j → {r : ℕ} → r ≡ weaker s t b k j → r ≡ weakest_below s t i b (suc j)
        unfolding weakest_below weaker
        payer-search-next v e =
            e ∙ rw (found ∙ v.reached (other_holds s t i b) of_others (weakest_below s t i b) payer-steady, v.passes (other_holds s t i b) of_others)

        pub payer-search-ended : Visited s.processors others upto left → left ≡ 0 → k ≡ payer s t i b
        unfolding weakest_below payer other_holds
        payer-search-ended v none = found ∙ visits-end v none (other_holds s t i b) of_others (weakest_below s t i b) payer-steady

    -- over the mask, for the owner
    owner-steady : Steady s.processors H (owner_from s t b)
    unfolding owner_from owns
    owner-steady j h e = rw (← (add-one j)) (search-passed (owns s t b) s.processors j _ refl false h (sym (rw e)) refl)

    module _ {upto left : ℕ} (whole : owner_from s t b upto ≡ owner s t b) where
      module _ {j : ℕ} (v : Turn s.processors mask upto left j) where
        from-here : owner_from s t b j ≡ owner s t b
        from-here = sym (v.reached H of-holders (owner_from s t b) owner-steady) ∙ whole

        pub owner-search-found : mark t (slot s j b) ≡ 1 → j ≡ owner s t b
        unfolding owner_from owns marked
        owner-search-found e =
            search-found (owns s t b) s.processors j _ from-here true v.below (sym (rw (v.passes H of-holders) (eq-eqb _ _ e))) refl

        pub owner-search-passed : mark t (slot s j b) ≢ 1 → owner_from s t b (suc j) ≡ owner s t b
        unfolding owner_from owns marked
        owner-search-passed d =
            rw (← (add-one j)) (search-passed (owns s t b) s.processors j _ from-here false v.below (sym (rw (v.passes H of-holders) (ne_eqb _ _ d))) refl)

      pub owner-search-ended : Visited s.processors mask upto left → left ≡ 0 → s.processors ≡ owner s t b
      unfolding owner_from
      owner-search-ended v none =
          search-ended (owns s t b) s.processors s.processors _
          (sym (visits-end v none H of-holders (owner_from s t b) owner-steady) ∙ whole) (omega arith)

    -- and for the copies
    module _ (o x : ℕ) where
      copies-steady : Steady s.processors H (updated_copies s t b o x)
      copies-steady j h e = rw e

      module _ {upto left : ℕ} {words : List ℕ} (found : words ≡ updated_copies s t b o x upto) where
        pub copies-next : {j : ℕ} → Turn s.processors mask upto left j → set words (word_index s (slot s j b) o) x ≡ updated_copies s t b o x (suc j)
        copies-next v = rw (found ∙ v.reached H of-holders (updated_copies s t b o x) copies-steady, v.passes H of-holders)

        pub copies-ended : Visited s.processors mask upto left → left ≡ 0 → words ≡ updated_copies s t b o x s.processors
        copies-ended v none = found ∙ visits-end v none H of-holders (updated_copies s t b o x) copies-steady
