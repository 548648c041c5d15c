-- A read supplies the last value written.
use Prim.Native.Nat.{ℕ, zero, suc, ◌-◌, ◌*◌, ◌≤◌, ◌<◌}
use mathlib.Core.Path.{◌≡◌, refl, sym, ap, ◌∙◌}
use mathlib.Core.Logic.{◌≢◌}
use mathlib.Core.Bool.{true, false, ◌&&◌, cond}
use mathlib.Core.List.{List, [], ◌∷◌}
use native.Mathlib.Omega.{arith}
use native.Mathlib.Nat.{le_refl}
use lib.ListN.{set}
use lib.Dec.{ltb, eqb}
use borrow.Author.Tests.{ltb-true, eqb-true, eqb-false, eq-eqb}
use Rattle.protocol_types.specs.Lists.{at}
use Rattle.protocol_types.specs.Board.{Fits, variables, slots, line_slot, slot, block_of, offset_of, word_index, memory_index, fetch_price}
use Rattle.protocol.specs.Tables.{Tables, fresh, counter, block, mark, word, memory_word, holds, sharing, marked}
use Rattle.protocol.specs.Soundness.{Sound}
use Rattle.protocol.specs.Rules.{written_back, emptied, filled, saved, evicted, owner, released, fetched, obtained, payer, written_alone, broadcast, charged, written, cleared}
use Rattle.protocol_types.specs.Conditions.{Named, Valid, AllValid}
use Rattle.protocol.specs.Requests.{served_by, served, value_by}
use Rattle.protocol.specs.Engines.{served_all}
use Rattle.protocol.specs.Runs.{engine}
use Rattle.competitive.specs.Claims.{newer, last_written, expected_by}
use Rattle.protocol_types.specs.declared.Setup.{Setup}
use Rattle.protocol_types.specs.declared.Variable.{Variable}
use Rattle.protocol_types.specs.declared.Block.{Block}
use Rattle.protocol_types.specs.declared.Request.{Request}
use Rattle.protocol_types.specs.declared.Operation.{Operation}
use Rattle.protocol_types.specs.declared.Operation.TheVariants.{Read, Write, Clear}
use Rattle.protocol_types.proofs.Laws.{Same, same, apart, same?, choice, at_set_same, at_set_other, at-set-zero, at-zeros}
use Rattle.protocol_types.proofs.Board.{block-path, block-number, variable-path, SameBlock, one, two, same-block?, same-variable, line_slot-lt, slot_lt, word_index-inj, word_index-lt, offset-lt, block-lt}
use Rattle.protocol.proofs.Holding.{holder-slot, owner-found}
use Rattle.protocol.proofs.Lengths.{counter-stored, block-stored, mark-stored}
use Rattle.competitive.proofs.Sound.{written_back-memory-same, written_back-memory-other, emptied-word-other, filled-word-same, filled-word-other, broadcast-word-out, broadcast-word-in, broadcast-memory-same, broadcast-memory-other}
use Rattle.protocol.proofs.Slots.{released-counters, evicted-zero, obtained-holds}
use Rattle.competitive.proofs.StepSound.{sound-cleared, sound-saved, sound-evicted, sound-released, released-unmarked, sound-obtained, alone-slots, shared-facts, sound-served}
use Rattle.competitive.proofs.Fresh.{sound-fresh}

-- word o of block b is x: in every copy, and in memory where no copy is marked
pub record Has (s : Setup) (t : Tables) (b : Block) (o x : ℕ) : Type 0 where
  pub copies : (m : ℕ) → m < slots s → 0 < counter t m → block t m ≡ b → word s t m o ≡ x
  pub memory : ((m : ℕ) → m < slots s → mark t m ≡ 1 → block t m ≢ b) → memory_word s t b o ≡ x

-- ---- each part of a step keeps it

module _ (s : Setup) (ok : Fits s) (t : Tables) (sd : Sound s t) (b : Block) (o x : ℕ) (ho : o < s.words) (has : Has s t b o x) where
  has-written_back : (k : ℕ) → k < slots s → mark t k ≡ 1 → Has s (written_back s t k) b o x
  unfolding written_back
  has-written_back k h e = record { copies = has.copies; memory = λ un. go un (same-block? b (block t k)) }
    where
      pos : 0 < counter t k
      pos = omega (arith, (sd.line k h).full e, ok.some-fetch)

      go : ((m : ℕ) → m < slots s → mark (written_back s t k) m ≡ 1 → block t m ≢ b) → SameBlock b (block t k)
          → memory_word s (written_back s t k) b o ≡ x
      go un (one p) =
          ap (λ z. memory_word s (written_back s t k) z o) p ∙ written_back-memory-same s ok t sd k o h ((sd.line k h).below pos) ho
          ∙ has.copies k h pos (sym p)
      go un (two p) = written_back-memory-other s ok t sd k b o p ho ∙ has.memory (λ m u z. un' m u z (same? m k))
        where
          un' : (m : ℕ) → m < slots s → mark t m ≡ 1 → Same m k → block t m ≢ b
          un' m u z (same c a) = rw c (λ y. p (sym y))
          un' m u z (apart c a) = un m u (at_set_other t.marks k 0 m c ∙ z)

  has-emptied : (k : ℕ) → k < slots s → mark t k ≢ 1 → Has s (emptied s t k) b o x
  unfolding emptied
  has-emptied k h n = record { copies = λ m u l e. go m u l e (same? m k); memory = λ un. has.memory (λ m u z. un' un m u z (same? m k)) }
    where
      go : (m : ℕ) → m < slots s → 0 < counter (emptied s t k) m → block (emptied s t k) m ≡ b → Same m k → word s (emptied s t k) m o ≡ x
      go m u l e (same c a) = absurd (omega (arith, l, ap (counter (emptied s t k)) c, counter-stored s t sd.lengths k 0 h))
      go m u l e (apart c a) =
          emptied-word-other s ok t sd k m o c ho
          ∙ has.copies m u (rw (at_set_other t.counters k 0 m c) at l) (block-path (sym (at_set_other t.blocks k 0 m c)) ∙ e)

      un' : ((m : ℕ) → m < slots s → mark (emptied s t k) m ≡ 1 → block (emptied s t k) m ≢ b) → (m : ℕ) → m < slots s → mark t m ≡ 1 → Same m k → block t m ≢ b
      un' un m u z (same c a) = absurd (n (ap (mark t) (sym c) ∙ z))
      un' un m u z (apart c a) = rw (at_set_other t.blocks k 0 m c) at (un m u (at_set_other t.marks k 0 m c ∙ z))

  has-filled : (k : ℕ) (c : Block) → k < slots s → c.0 < s.blocks → mark t k ≢ 1
      → ((m : ℕ) → m < slots s → mark t m ≡ 1 → block t m ≢ c) → Has s (filled s t k c) b o x
  unfolding filled
  has-filled k c h hc n un = record { copies = λ m u l e. go m u l e (same? m k); memory = λ un. has.memory (λ m u z. un' un m u z (same? m k)) }
    where
      go : (m : ℕ) → m < slots s → 0 < counter (filled s t k c) m → block (filled s t k c) m ≡ b → Same m k → word s (filled s t k c) m o ≡ x
      go m u l e (same p a) =
          let eb : c ≡ b = block-path (sym (block-stored s t sd.lengths k c.0 h)) ∙ ap (block (filled s t k c)) (sym p) ∙ e in
          rw p (filled-word-same s ok t sd k c o h hc ho ∙ ap (λ z. memory_word s t z o) eb ∙ has.memory (λ m u z y. un m u z (y ∙ sym eb)))
      go m u l e (apart p a) =
          filled-word-other s ok t sd k c m o p ho
          ∙ has.copies m u (rw (at_set_other t.counters k (fetch_price s) m p) at l) (block-path (sym (at_set_other t.blocks k c.0 m p)) ∙ e)

      un' : ((m : ℕ) → m < slots s → mark (filled s t k c) m ≡ 1 → block (filled s t k c) m ≢ b)
          → (m : ℕ) → m < slots s → mark t m ≡ 1 → Same m k → block t m ≢ b
      un' un m u z (same p a) = absurd (n (ap (mark t) (sym p) ∙ z))
      un' un m u z (apart p a) = rw (at_set_other t.blocks k c.0 m p) at (un m u (at_set_other t.marks k 0 m p ∙ z))

  has-charged : (k : ℕ) → k < slots s → 0 < counter t k → mark t k ≢ 1 → Has s (charged s t k) b o x
  unfolding charged
  has-charged k h pos n =
      choice (λ z. Has s z b o x) (eqb (counter t k) 1) (λ e. has-emptied k h n)
      (λ e. record { copies = λ m u l e. has.copies m u (pos' m l (same? m k)) e; memory = has.memory })
    where
      pos' : (m : ℕ) → 0 < at (set t.counters k (counter t k - 1)) m → Same m k → 0 < counter t m
      pos' m l (same p q) = rw p pos
      pos' m l (apart p q) = rw (at_set_other t.counters k (counter t k - 1) m p) at l

  has-released : (c : Block) → Has s (released s t c) b o x
  unfolding released
  has-released c =
      choice (λ z. Has s z b o x) (ltb (owner s t c) s.processors)
      (λ e. let l = ltb-true _ _ e in has-written_back (slot s (owner s t c) c) (slot_lt s ok (owner s t c) c l) (owner-found s t c l).1) (λ e. has)

-- word o of block b, which was x, where v is written at o₀ of b₀
abbrev pub overwritten : Block → ℕ → ℕ → Block → ℕ → ℕ → ℕ
overwritten b₀ o₀ v b o x = cond (eqb b.0 b₀.0 && eqb o o₀) v x

over-same : (b₀ : Block) (o₀ v : ℕ) (b : Block) (o x : ℕ) → b ≡ b₀ → o ≡ o₀ → overwritten b₀ o₀ v b o x ≡ v
over-same b₀ o₀ v b o x e f = rw (eq-eqb b.0 b₀.0 (block-number e), eq-eqb o o₀ f)

over-other : (b₀ : Block) (o₀ v : ℕ) (b : Block) (o x : ℕ) → (b ≡ b₀ → o ≢ o₀) → overwritten b₀ o₀ v b o x ≡ x
over-other b₀ o₀ v b o x f = go (same? b.0 b₀.0) (same? o o₀)
  where
    go : Same b.0 b₀.0 → Same o o₀ → overwritten b₀ o₀ v b o x ≡ x
    go (same p q) (same c a) = absurd (f (block-path p) c)
    go (same p q) (apart c a) = rw (q, a)
    go (apart p q) c = rw q

module _ (s : Setup) (ok : Fits s) (t : Tables) (sd : Sound s t) (b : Block) (o x : ℕ) (ho : o < s.words) (has : Has s t b o x) where
  has-saved : (k : ℕ) → k < slots s → Has s (saved s t k) b o x
  unfolding saved marked
  has-saved k h = choice (λ z. Has s z b o x) (marked t k) (λ e. has-written_back s ok t sd b o x ho has k h (eqb-true _ _ e)) (λ e. has)

  saved-unmarked : (k : ℕ) → mark (saved s t k) k ≢ 1
  unfolding saved marked written_back
  saved-unmarked k = choice (λ z. mark z k ≢ 1) (marked t k) (λ e y. omega (arith, y, at-set-zero t.marks k)) (λ e. eqb-false _ _ e)

  has-evicted : (k : ℕ) → k < slots s → Has s (evicted s t k) b o x
  unfolding evicted
  has-evicted k h = has-emptied s ok (saved s t k) (sound-saved s ok t sd k h) b o x ho (has-saved k h) k h (saved-unmarked k)

  has-written_alone : (k o₀ v : ℕ) → k < slots s → o₀ < s.words
      → ((m : ℕ) → m < slots s → m ≢ k → 0 < counter t m → block t m ≢ block t k)
      → 0 < counter t k → Has s (written_alone s t k o₀ v) b o (overwritten (block t k) o₀ v b o x)
  unfolding written_alone
  has-written_alone k o₀ v h ho₀ un pos = record { copies = λ m u l e. go m u l e (same? m k) (same? o o₀); memory = λ un. go2 un }
    where
      go : (m : ℕ) → m < slots s → 0 < counter (written_alone s t k o₀ v) m → block t m ≡ b → Same m k → Same o o₀
          → word s (written_alone s t k o₀ v) m o ≡ overwritten (block t k) o₀ v b o x
      go m u l e (same p q) (same c a) =
          rw (p, c)
          (at_set_same t.words (word_index s k o₀) v (omega (arith, word_index-lt s ok k (slots s) o₀ h ho₀, sd.lengths.words))
          ∙ sym (over-same (block t k) o₀ v b o₀ x (sym e ∙ ap (block t) p) refl))
      go m u l e (same p q) (apart c a) =
          rw p
          (at_set_other t.words (word_index s k o₀) v (word_index s k o) (λ y. c (word_index-inj s ok k k o o₀ ho ho₀ y).1)
          ∙ has.copies k h pos (ap (block t) (sym p) ∙ e) ∙ sym (over-other (block t k) o₀ v b o x (λ _. c)))
      go m u l e (apart p q) c =
          at_set_other t.words (word_index s k o₀) v (word_index s m o) (λ y. p (word_index-inj s ok m k o o₀ ho ho₀ y).0)
          ∙ has.copies m u l' e ∙ sym (over-other (block t k) o₀ v b o x (λ y. absurd (un m u p l' (e ∙ y))))
        where
          l' : 0 < counter t m
          l' = rw (at_set_other t.counters k (fetch_price s) m p) at l

      go2 : ((m : ℕ) → m < slots s → mark (written_alone s t k o₀ v) m ≡ 1 → block t m ≢ b) → memory_word s t b o ≡ overwritten (block t k) o₀ v b o x
      go2 n = has.memory (λ m u z. un' m u z (same? m k)) ∙ sym (over-other (block t k) o₀ v b o x (λ y. absurd (d (sym y))))
        where
          d : block t k ≢ b
          d = n k h (mark-stored s t sd.lengths k 1 h)

          un' : (m : ℕ) → m < slots s → mark t m ≡ 1 → Same m k → block t m ≢ b
          un' m u z (same p q) = rw p d
          un' m u z (apart p q) = n m u (at_set_other t.marks k 1 m p ∙ z)

  has-broadcast : (k : ℕ) (b₀ : Block) (o₀ v : ℕ) → k < slots s → b₀.0 < s.blocks → o₀ < s.words → 0 < counter t k
      → Has s (broadcast s t k b₀ o₀ v) b o (overwritten b₀ o₀ v b o x)
  unfolding broadcast
  has-broadcast k b₀ o₀ v h hb ho₀ pos = record {
    copies = λ m u l e. go m u (pos' m l (same? m k)) e (same-block? b b₀) (same? o o₀);
    memory = λ un. go2 un (same-block? b b₀) (same? o o₀);
  }
    where
      pos' : (m : ℕ) → 0 < counter (broadcast s t k b₀ o₀ v) m → Same m k → 0 < counter t m
      pos' m l (same p q) = rw p pos
      pos' m l (apart p q) = rw (at_set_other t.counters k (fetch_price s) m p) at l

      go : (m : ℕ) → m < slots s → 0 < counter t m → block t m ≡ b → SameBlock b b₀ → Same o o₀
          → word s (broadcast s t k b₀ o₀ v) m o ≡ overwritten b₀ o₀ v b o x
      go m u l e (one p) (same c a) = rw c (broadcast-word-in s ok t sd k b₀ o₀ v m ho₀ u l (e ∙ p) ∙ sym (over-same b₀ o₀ v b o₀ x p refl))
      go m u l e (one p) (apart c a) =
          broadcast-word-out s ok t sd k b₀ o₀ v m o ho₀ ho (λ _ _. c) ∙ has.copies m u l e ∙ sym (over-other b₀ o₀ v b o x (λ _. c))
      go m u l e (two p) c =
          broadcast-word-out s ok t sd k b₀ o₀ v m o ho₀ ho (λ _ y. absurd (p (sym e ∙ y))) ∙ has.copies m u l e
          ∙ sym (over-other b₀ o₀ v b o x (λ y. absurd (p y)))

      go2 : ((m : ℕ) → m < slots s → mark t m ≡ 1 → block t m ≢ b) → SameBlock b b₀ → Same o o₀
          → memory_word s (broadcast s t k b₀ o₀ v) b o ≡ overwritten b₀ o₀ v b o x
      go2 n (one p) (same c a) =
          ap (λ z. memory_word s (broadcast s t k b₀ o₀ v) z o) p ∙ ap (memory_word s (broadcast s t k b₀ o₀ v) b₀) c
          ∙ broadcast-memory-same s ok t sd k b₀ o₀ v hb ho₀ ∙ sym (over-same b₀ o₀ v b o x p c)
      go2 n (one p) (apart c a) =
          broadcast-memory-other s ok t sd k b₀ o₀ v b o ho₀ ho (λ _. c) ∙ has.memory n ∙ sym (over-other b₀ o₀ v b o x (λ _. c))
      go2 n (two p) c =
          broadcast-memory-other s ok t sd k b₀ o₀ v b o ho₀ ho (λ y. absurd (p y)) ∙ has.memory n ∙ sym (over-other b₀ o₀ v b o x (λ y. absurd (p y)))

has-cleared : (s : Setup) (ok : Fits s) (t : Tables) (sd : Sound s t) (b : Block) (o x : ℕ) → o < s.words → Has s t b o x
    → (i n : ℕ) → i < s.processors → n ≤ s.lines → Has s (cleared s t i n) b o x
has-cleared s ok t sd b o x ho has i zero hi hn = has
has-cleared s ok t sd b o x ho has i (suc n) hi hn =
    has-evicted s ok (cleared s t i n) (sound-cleared s ok t sd i n hi (omega arith)) b o x ho (has-cleared s ok t sd b o x ho has i n hi (omega arith))
    (line_slot s i n) (line_slot-lt s ok i n hi hn)

module _ (s : Setup) (ok : Fits s) (t : Tables) (sd : Sound s t) (b : Block) (o x : ℕ) (ho : o < s.words) (has : Has s t b o x) (i : ℕ) (c : Block)
    (hi : i < s.processors) (hc : c.0 < s.blocks) where
  has-obtained : Has s (obtained s t i c) b o x
  unfolding obtained fetched
  has-obtained = choice (λ z. Has s z b o x) (holds s t i c) (λ e. has) (λ e. missed)
    where
      k : ℕ
      k = slot s i c

      hk : k < slots s
      hk = slot_lt s ok i c hi

      t₂ : Tables
      t₂ = evicted s t k

      sd₂ : Sound s t₂
      sd₂ = sound-evicted s ok t sd k hk

      t₃ : Tables
      t₃ = released s t₂ c

      sd₃ : Sound s t₃
      sd₃ = sound-released s ok t₂ sd₂ c

      has₃ : Has s t₃ b o x
      has₃ = has-released s ok t₂ sd₂ b o x ho (has-evicted s ok t sd b o x ho has k hk) c

      zero₃ : counter t₃ k ≡ 0
      zero₃ = ap (λ l. at l k) (released-counters s t₂ c) ∙ evicted-zero s t k

      missed : Has s (filled s t₃ k c) b o x
      missed =
          has-filled s ok t₃ sd₃ b o x ho has₃ k c hk hc (λ y. omega (arith, y, (sd₃.line k hk).no-mark zero₃)) (λ m u z. released-unmarked s ok t₂ sd₂ c m u z)

  has-written : (o₀ v : ℕ) → o₀ < s.words → holds s t i c ≡ true → Has s (written s t i c o₀ v) b o (overwritten c o₀ v b o x)
  unfolding written
  has-written o₀ v ho₀ e =
      choice (λ z. Has s z b o (overwritten c o₀ v b o x)) (sharing s t i c)
      (λ q. shared-part q) (λ q. alone-part q)
    where
      k : ℕ
      k = slot s i c

      hk : k < slots s
      hk = slot_lt s ok i c hi

      hs : (0 < counter t k) × (block t k ≡ c)
      hs = holder-slot s t i c e

      alone-part : sharing s t i c ≡ false → Has s (written_alone s t k o₀ v) b o (overwritten c o₀ v b o x)
      alone-part l =
          rw (block-number hs.1) at
          (has-written_alone s ok t sd b o x ho has k o₀ v hk ho₀ (λ m u d z y. alone-slots s ok t sd i c hi l m u d z (y ∙ hs.1)) hs.0)

      shared-part : sharing s t i c ≡ true → Has s (charged s (broadcast s t k c o₀ v) (slot s (payer s t i c) c)) b o (overwritten c o₀ v b o x)
      shared-part l =
          let w = shared-facts s ok t sd i c hi o₀ v ho₀ e l in
          has-charged s ok (broadcast s t k c o₀ v) w.sound b o (overwritten c o₀ v b o x) ho
          (has-broadcast s ok t sd b o x ho has k c o₀ v hk hc ho₀ hs.0) (slot s (payer s t i c) c) w.slot w.holds w.clean

-- ---- one request

-- variable v has the value x
abbrev pub Stores : Setup → Tables → Variable → ℕ → Type 0
Stores s t v x = Has s t (block_of s v) (offset_of s v) x

-- y is written to variable w
over-newer : (s : Setup) (w : Variable) (y : ℕ) (v : Variable) (x : ℕ)
    → overwritten (block_of s w) (offset_of s w) y (block_of s v) (offset_of s v) x ≡ newer (Write w y) v x
over-newer s w y v x = go (same? w.0 v.0)
  where
    go : Same w.0 v.0 → overwritten (block_of s w) (offset_of s w) y (block_of s v) (offset_of s v) x ≡ cond (eqb w.0 v.0) y x
    go (same p a) =
        let z : v ≡ w = variable-path (sym p) in
        over-same (block_of s w) (offset_of s w) y (block_of s v) (offset_of s v) x (ap (block_of s) z) (ap (offset_of s) z) ∙ rw a
    go (apart p a) =
        over-other (block_of s w) (offset_of s w) y (block_of s v) (offset_of s v) x
        (λ y z. p (ap (λ (z : Variable). z.0) (sym (same-variable s v w y z)))) ∙ rw a

module _ (s : Setup) (ok : Fits s) (t : Tables) (sd : Sound s t) (i : ℕ) (hi : i < s.processors) where
  stores-obtained : (w : Variable) → w.0 < variables s → (v : Variable) (x : ℕ) → Stores s t v x → Stores s (obtained s t i (block_of s w)) v x
  stores-obtained w n v x has =
      has-obtained s ok t sd (block_of s v) (offset_of s v) x (offset-lt s ok v) has i (block_of s w) hi (block-lt s ok w n)

  stores-served_by : (o : Operation) → Named s o → (v : Variable) (x : ℕ) → Stores s t v x → Stores s (served_by s t i o) v (newer o v x)
  stores-served_by (Read w) n v x has = stores-obtained w n v x has
  stores-served_by (Write w y) n v x has =
      let b : Block = block_of s w in
      rw (over-newer s w y v x) at
      (has-written s ok (obtained s t i b) (sound-obtained s ok t sd i b hi (block-lt s ok w n)) (block_of s v) (offset_of s v) x (offset-lt s ok v)
      (stores-obtained w n v x has) i b hi (block-lt s ok w n) (offset_of s w) y (offset-lt s ok w) (obtained-holds s ok t sd.lengths i b hi))
  stores-served_by Clear n v x has = has-cleared s ok t sd (block_of s v) (offset_of s v) x (offset-lt s ok v) has i s.lines hi (le_refl _)

  -- a read supplies it
  pub read-value : (v : Variable) (x : ℕ) → v.0 < variables s → Stores s t v x → value_by s t i (Read v) ≡ x
  read-value v x n has =
      let b : Block = block_of s v in
      let h = holder-slot s (obtained s t i b) i b (obtained-holds s ok t sd.lengths i b hi) in
      (stores-obtained v n v x has).copies (slot s i b) (slot_lt s ok i b hi) h.0 h.1

pub stores-served : (s : Setup) (ok : Fits s) (t : Tables) (sd : Sound s t) (q : Request) → Valid s q → (v : Variable) (x : ℕ) → Stores s t v x
    → Stores s (served s t q) v (newer q.operation v x)
unfolding served
stores-served s ok t sd q va v x has = stores-served_by s ok t sd q.processor va.processor q.operation va.operation v x has

-- ---- a list of requests

pub stores-list : (s : Setup) (ok : Fits s) (t : Tables) (sd : Sound s t) (qs : List Request) → AllValid s qs → (v : Variable) (x : ℕ) → Stores s t v x
    → Sound s (served_all (engine s) t qs) × Stores s (served_all (engine s) t qs) v (last_written qs v x)
stores-list s ok t sd [] va v x h = (sd, h)
stores-list s ok t sd (q ∷ qs) va v x h =
    stores-list s ok (served s t q) (sound-served s ok t sd q va.0) qs va.1 v (newer q.operation v x) (stores-served s ok t sd q va.0 v x h)

stores-fresh : (s : Setup) (v : Variable) → Stores s (fresh s) v 0
unfolding fresh
stores-fresh s v = record {
  copies = λ m u l e. at-zeros (slots s * s.words) (word_index s m (offset_of s v));
  memory = λ un. at-zeros (variables s) (memory_index s (block_of s v) (offset_of s v));
}

-- after any requests from fresh tables a read supplies the last value written to its variable, 0 if none was
pub last-value : (s : Setup) (ok : Fits s) (ps : List Request) (i : ℕ) (o : Operation) → AllValid s ps → i < s.processors → Named s o
    → value_by s (served_all (engine s) (fresh s) ps) i o ≡ expected_by ps o
last-value s ok ps i (Read v) va hi n =
    let h = stores-list s ok (fresh s) (sound-fresh s) ps va v 0 (stores-fresh s v) in
    read-value s ok (served_all (engine s) (fresh s) ps) h.0 i hi v (last_written ps v 0) n h.1
last-value s ok ps i (Write v x) va hi n = refl
last-value s ok ps i Clear va hi n = refl
