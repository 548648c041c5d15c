-- The test of condition 20 passes exactly on sound tables, and that of 2 exactly on tables of the right lengths.
use Prim.Native.Nat.{ℕ, ◌+◌, ◌*◌, ◌/◌, ◌%◌, ◌≤◌, ◌<◌}
use mathlib.Core.Path.{◌≡◌, refl, sym, ap, ◌∙◌}
use mathlib.Core.Logic.{◌≢◌}
use mathlib.Core.Bool.{Bool, true, false, not, true≢false}
use native.Mathlib.Omega.{arith}
use native.Mathlib.Nat.{mod-lt, div-add-mod'}
use lib.Dec.{leb, ltb, eqb}
use borrow.Author.Tests.{not-true, ltb-true, leb-true, eqb-true, eqb-false, lt-ltb, le-leb, eq-eqb, ne_eqb}
use Rattle.protocol_types.specs.Lists.{all}
use Rattle.protocol_types.specs.Board.{Fits, slots, slot, line_of, fetch_price}
use Rattle.protocol.specs.Tables.{Tables, Sized, sized, counter, block, mark, word, memory_word, holds, sharing}
use Rattle.protocol.specs.Soundness.{SlotSoundAt, Sound, empty_line, copy_line, sound_line, sound}
use Rattle.protocol_types.specs.declared.Setup.{Setup}
use Rattle.protocol_types.specs.declared.Block.{Block}
use Rattle.protocol_types.proofs.Laws.{Same, same, apart, same?, Known, sure, not_so, known, choice, chosen, both_true, three-true, four-true, and-true, all_true, true-all}
use Rattle.protocol_types.proofs.Board.{row_lt, row-mod, slot_lt, slot-inj, slot_of, processor-lt}
use Rattle.protocol.proofs.Holding.{holder-slot, slot-holder, sharing-found, sharing-none}

pub sized-passes : (s : Setup) (t : Tables) → Sized s t → sized s t ≡ true
unfolding sized
sized-passes s t z =
    and-true
    (and-true (and-true (and-true (eq-eqb _ _ z.blocks) (eq-eqb _ _ z.counters)) (eq-eqb _ _ z.marks)) (eq-eqb _ _ z.words))
    (eq-eqb _ _ z.memory)

pub passed-sized : (s : Setup) (t : Tables) → sized s t ≡ true → Sized s t
unfolding sized
passed-sized s t e =
    let e4 = both_true _ _ e in
    let e3 = both_true _ _ e4.0 in
    let e2 = both_true _ _ e3.0 in
    let e1 = both_true _ _ e2.0 in
    record {
      blocks = eqb-true _ _ e1.0;
      counters = eqb-true _ _ e1.1;
      marks = eqb-true _ _ e2.1;
      words = eqb-true _ _ e3.1;
      memory = eqb-true _ _ e4.1;
    }

-- ---- sound tables pass

module _ (s : Setup) (ok : Fits s) (t : Tables) (sd : Sound s t) (i l k : ℕ) (hi : i < s.processors) (hl : l < s.lines) (is-k : k ≡ i * s.lines + l) where
  hk : k < slots s
  unfolding slots
  hk = rw is-k (row_lt i s.processors s.lines l hi hl)

  in-line : k % s.lines ≡ l
  in-line = rw is-k (row-mod i s.lines l hl)

  line : SlotSoundAt s t k
  line = sd.line k hk

  -- slot k is the block's slot at i
  here : 0 < counter t k → slot s i (block t k) ≡ k
  unfolding slot
  here h = ap (λ z. i * s.lines + z) (sym (line.proper h) ∙ in-line) ∙ sym is-k

  empty-passes : counter t k ≡ 0 → empty_line s t k ≡ true
  unfolding empty_line
  empty-passes e =
      and-true (and-true (eq-eqb _ _ (line.no_block e)) (eq-eqb _ _ (line.no-mark e)))
      (true-all s.words _ (λ o u. eq-eqb _ _ (line.no_words e o u)))

  no_other : mark t k ≡ 1 → 0 < counter t k → not (sharing s t i (block t k)) ≡ true
  no_other e h = go (known (sharing s t i b))
    where
      b : Block
      b = block t k

      go : Known (sharing s t i b) → not (sharing s t i b) ≡ true
      go (sure q) =
          let f = sharing-found s t i b q in
          let j = f.0 in
          let g = holder-slot s t j b f.2.passes in
          absurd (sd.lone k (slot s j b) hk (slot_lt s ok j b f.1) e (λ y. f.2.differs (slot-inj s ok j i b b (y ∙ sym (here h)))) g.0 g.1)
      go (not_so q) = rw q

  copy-passes : 0 < counter t k → copy_line s t i k ≡ true
  unfolding copy_line
  copy-passes h =
      choice (λ z. z ≡ true) (eqb (mark t k) 0)
      (λ e. true-all s.words _ (λ o u. eq-eqb _ _ (line.clean (eqb-true _ _ e) h o u)))
      (λ e. let m : mark t k ≡ 1 = omega (arith, line.mark-le, eqb-false (mark t k) 0 e) in
      and-true (and-true (eq-eqb _ _ m) (eq-eqb _ _ (line.full m))) (no_other m h))

  line-passes : sound_line s t i l k ≡ true
  unfolding sound_line
  line-passes =
      choice (λ z. z ≡ true) (eqb (counter t k) 0)
      (λ e. empty-passes (eqb-true _ _ e))
      (λ e. let h : 0 < counter t k = omega (arith, eqb-false (counter t k) 0 e) in
      and-true (and-true (and-true (le-leb _ _ line.bounded) (lt-ltb _ _ (line.below h))) (eq-eqb _ _ (sym (line.proper h) ∙ in-line))) (copy-passes h))

pub sound-passes : (s : Setup) (ok : Fits s) (t : Tables) → Sound s t → sound s t ≡ true
unfolding sound
sound-passes s ok t sd = true-all s.processors _ (λ i hi. true-all s.lines _ (λ l hl. line-passes s ok t sd i l (i * s.lines + l) hi hl refl))

-- ---- tables that pass are sound

module _ (s : Setup) (ok : Fits s) (t : Tables) (e : sound s t ≡ true) (k : ℕ) (h : k < slots s) where
  -- its processor and its line
  abbrev i : ℕ
  i = k / s.lines

  abbrev l : ℕ
  l = k % s.lines

  -- the tests of an empty line's words, of an unmarked copy's, and for no other holder
  abbrev blank : Bool
  blank = all s.words (λ o. eqb (word s t k o) 0)

  abbrev equal : Bool
  equal = all s.words (λ o. eqb (word s t k o) (memory_word s t (block t k) o))

  abbrev alone : Bool
  alone = not (sharing s t i (block t k))

  line-passed : sound_line s t i l k ≡ true
  unfolding sound
  line-passed =
      rw (div-add-mod' k s.lines) at
      (all_true s.lines (λ l. sound_line s t i l (i * s.lines + l))
      (all_true s.processors (λ i. all s.lines (λ l. sound_line s t i l (i * s.lines + l))) e i (processor-lt s ok k h)) l (mod-lt k ok.some-line))

  empties : counter t k ≡ 0 → (eqb (block t k).0 0 ≡ true) × (eqb (mark t k) 0 ≡ true) × (blank ≡ true)
  unfolding sound_line empty_line
  empties z = three-true (eqb (block t k).0 0) (eqb (mark t k) 0) blank ((chosen (eqb (counter t k) 0) _ _ line-passed).0 (eq-eqb _ _ z))

  no-mark' : counter t k ≡ 0 → mark t k ≡ 0
  no-mark' z = eqb-true _ _ (empties z).1

  helds : 0 < counter t k
      → (leb (counter t k) (fetch_price s) ≡ true) × (ltb (block t k).0 s.blocks ≡ true) × (eqb (line_of s (block t k)) l ≡ true) × (copy_line s t i k ≡ true)
  unfolding sound_line
  helds p =
      four-true (leb (counter t k) (fetch_price s)) (ltb (block t k).0 s.blocks) (eqb (line_of s (block t k)) l) (copy_line s t i k)
      ((chosen (eqb (counter t k) 0) _ _ line-passed).1 (ne_eqb (counter t k) 0 (λ (z : counter t k ≡ 0). omega arith)))

  passed-proper : 0 < counter t k → k % s.lines ≡ line_of s (block t k)
  passed-proper p = sym (eqb-true _ _ (helds p).2)

  -- an unmarked copy, and a marked one
  passed-clean : 0 < counter t k → mark t k ≡ 0 → (o : ℕ) → o < s.words → word s t k o ≡ memory_word s t (block t k) o
  unfolding copy_line
  passed-clean p z o u =
      eqb-true _ _
      (all_true s.words (λ o. eqb (word s t k o) (memory_word s t (block t k) o)) ((chosen (eqb (mark t k) 0) equal _ (helds p).3).0 (eq-eqb _ _ z)) o u)

  marks : 0 < counter t k → mark t k ≢ 0 → (eqb (mark t k) 1 ≡ true) × (eqb (counter t k) (fetch_price s) ≡ true) × (alone ≡ true)
  unfolding copy_line
  marks p d =
      three-true (eqb (mark t k) 1) (eqb (counter t k) (fetch_price s)) alone ((chosen (eqb (mark t k) 0) equal _ (helds p).3).1 (ne_eqb _ _ d))

  marked-pos : mark t k ≢ 0 → 0 < counter t k
  marked-pos d = go (same? (counter t k) 0)
    where
      go : Same (counter t k) 0 → 0 < counter t k
      go (same p q) = absurd (d (no-mark' p))
      go (apart p q) = omega arith

  passed-line : SlotSoundAt s t k
  passed-line = record {
    bounded = bounded'' (same? (counter t k) 0);
    no_block = λ z. eqb-true _ _ (empties z).0;
    no-mark = no-mark';
    no_words = λ z o u. eqb-true _ _ (all_true s.words (λ o. eqb (word s t k o) 0) (empties z).2 o u);
    below = λ l. ltb-true _ _ (helds l).1;
    proper = passed-proper;
    mark-le = mark-le' (same? (mark t k) 0);
    full = λ z. eqb-true _ _ (marks (marked-pos (λ (y : mark t k ≡ 0). omega arith)) (λ (y : mark t k ≡ 0). omega arith)).1;
    clean = λ z l. passed-clean l z;
  }
    where
      bounded'' : Same (counter t k) 0 → counter t k ≤ fetch_price s
      bounded'' (same p q) = omega arith
      bounded'' (apart p q) = leb-true _ _ (helds (omega arith)).0

      mark-le' : Same (mark t k) 0 → mark t k ≤ 1
      mark-le' (same p q) = omega arith
      mark-le' (apart p q) = omega (arith, eqb-true (mark t k) 1 (marks (marked-pos p) p).0)

  passed-lone : (m : ℕ) → m < slots s → mark t k ≡ 1 → m ≢ k → 0 < counter t m → m % s.lines ≡ line_of s (block t m) → block t m ≢ block t k
  passed-lone m u z d l pr p =
      true≢false
      (sym g.1
      ∙ sharing-none s t (k / s.lines) b none (m / s.lines) (processor-lt s ok m u)
      (λ y. d (sym g.0 ∙ ap (λ x. slot s x b) y ∙ slot_of s ok k b (passed-proper pos))))
    where
      b : Block
      b = block t k

      pos : 0 < counter t k
      pos = marked-pos (λ (y : mark t k ≡ 0). omega arith)

      none : sharing s t (k / s.lines) b ≡ false
      none = not-true _ (marks pos (λ (y : mark t k ≡ 0). omega arith)).2

      -- slot m is b's at its processor
      g : (slot s (m / s.lines) b ≡ m) × (holds s t (m / s.lines) b ≡ true)
      g = slot-holder s ok t m b (pr ∙ ap (line_of s) p) l p

pub passed-sound : (s : Setup) (ok : Fits s) (t : Tables) → sized s t ≡ true → sound s t ≡ true → Sound s t
passed-sound s ok t z e = record {
  lengths = passed-sized s t z;
  line = λ m h. passed-line s ok t e m h;
  lone = λ k m h u c d l. passed-lone s ok t e k h m u c d l (passed-proper s ok t e m u l);
}
