-- What the engine does for a request is told by the position of its copies: its entries by number are `serving_codes`.
use Prim.Native.Nat.{ℕ, zero, suc, ◌+◌, ◌-◌, ◌*◌, ◌/◌, ◌%◌, ◌≤◌, ◌<◌}
use mathlib.Core.Path.{◌≡◌, refl, sym, ap, ◌∙◌}
use mathlib.Core.Bool.{Bool, true, false, ◌&&◌, cond}
use mathlib.Core.List.{List, [], ◌∷◌, ◌++◌}
use native.Mathlib.Omega.{arith}
use native.Mathlib.Nat.{le_refl}
use lib.Dec.{ltb, eqb}
use borrow.Author.Tests.{eq-eqb, ne_eqb, lt-ltb, le-ltb}
use Rattle.protocol_types.specs.Lists.{at}
use Rattle.protocol_types.specs.Board.{Fits, line_slot, slot, line_of, block_of, slots}
use Rattle.protocol_types.specs.Conditions.{Named}
use Rattle.protocol.specs.Tables.{Tables, counter, block, mark, holds_at, holds, sharing, marked}
use Rattle.protocol.specs.Soundness.{Sound}
use Rattle.protocol.specs.Rules.{obtained, payer, cleared}
use Rattle.protocol.specs.Rival.{Rival, keeps_at, keeps}
use Rattle.competitive.specs.EngineSchedule.{saving, evicting, obtaining, paying, clearing, serving_by, SameCopies}
use Rattle.competitive.proofs.Bound.{held}
use Rattle.protocol_types.specs.declared.Setup.{Setup}
use Rattle.protocol_types.specs.declared.Block.{Block}
use Rattle.protocol_types.specs.declared.Operation.{Operation}
use Rattle.protocol_types.specs.declared.Operation.TheVariants.{Read, Write, Clear}
use Rattle.protocol_types.specs.declared.Entry.{Entry}
use Rattle.protocol_types.specs.declared.Entry.TheVariants.{WriteBack, Drop, Fetch, Complete}
use Rattle.protocol_types.proofs.Laws.{Under, under, over, under?, Known, sure, not_so, known}
use Rattle.protocol_types.proofs.Board.{row-div, row-mod, line_slot-lt, line-lt, slot_lt, block-lt}
use Rattle.protocol.proofs.Holding.{true-holds_at}
use Rattle.best_positions.specs.Position.{block_no, has, digit, number, in_line, asked_by}
use Rattle.best_positions.proofs.RivalSound.{RivalSound}
use Rattle.best_positions.proofs.Coding.{digit-number, has-state, mark-state, block-found, block_none}
use Rattle.best_positions.proofs.Schedules.{code_of, coded}
use Rattle.best_own_parts.specs.Codes.{move_code, drop_code, leaving_codes, evicting_codes, obtaining_codes, clearing_codes}
use Rattle.best_own.specs.Own.{counter_index, paying_codes, serving_codes}
use Rattle.best_own_claims.proofs.Tables.{SameLine, same-holds_at, obtained-apart, cleared-later, two-sharing, two-payer}

pub coded-append : (es fs : List Entry) → coded (es ++ fs) ≡ coded es ++ coded fs
coded-append [] fs = refl
coded-append (e ∷ es) fs = ap (λ z. code_of e ∷ z) (coded-append es fs)

-- a request's number tells it
pub record Asked (a i b w : ℕ) : Type 0 where
  pub low : ltb a 16 ≡ true
  pub processor : a % 2 ≡ i
  pub block : a / 4 ≡ b
  pub written : a / 2 % 2 ≡ w

pub read_asked : (i b : ℕ) → i < 2 → b < 4 → Asked (4 * b + i) i b 0
read_asked i b hi hb = record { low = lt-ltb (4 * b + i) 16 (omega arith); processor = omega arith; block = omega arith; written = omega arith }

pub write-asked : (i b : ℕ) → i < 2 → b < 4 → Asked (4 * b + 2 + i) i b 1
write-asked i b hi hb = record { low = lt-ltb (4 * b + 2 + i) 16 (omega arith); processor = omega arith; block = omega arith; written = omega arith }

-- the same line, and so the same entries
evicting-same : (t t' : Tables) (i k : ℕ) → SameLine t t' k → evicting t' i k ≡ evicting t i k
unfolding evicting saving marked
evicting-same t t' i k e = rw (e.slots.counters, e.slots.blocks, e.marks)

-- the engine's tables t and a rival r with the same copies
module _ (s : Setup) (ok : Fits s) (two : s.processors ≡ 2) (small : s.blocks ≤ 4) (t : Tables) (sd : Sound s t) (r : Rival) (rs : RivalSound s r)
    (m : SameCopies s t r) (n : ℕ) where
  kept : (i : ℕ) (b : Block) → i < 2 → keeps s r i b ≡ holds s t i b
  unfolding keeps keeps_at holds holds_at
  kept i b hi =
      let h : slot s i b < slots s = slot_lt s ok i b (omega arith) in
      rw (m.held (slot s i b) h, m.blocks (slot s i b) h) (go (ltb 0 (counter t (slot s i b))))
    where
      go : (c : Bool) → eqb (cond c 1 0) 1 && eqb (block t (slot s i b)).0 b.0 ≡ c && eqb (block t (slot s i b)).0 b.0
      go true = refl
      go false = refl

  -- a digit tells who holds the block
  pub told : (i : ℕ) (b : Block) → i < 2 → b.0 < 4 → has i (digit (number s r n) b.0) ≡ holds s t i b
  told i b hi hb = ap (has i) (digit-number s r n b.0 hb) ∙ has-state s r i b hi ∙ kept i b hi

  -- line l of processor i
  module _ (i l : ℕ) (hi : i < 2) (hl : l < s.lines) where
    abbrev k : ℕ
    k = line_slot s i l

    hk : k < slots s
    hk = line_slot-lt s ok i l (omega arith) hl

    -- what is found there
    found : held r k ≡ 1 → in_line s (number s r n) i l ≡ (block t k).0
    found h = sym (ap (λ x. in_line s (number s r n) x (k % s.lines)) (row-div i s.lines l hl) ∙ ap (in_line s (number s r n) i) (row-mod i s.lines l hl)) ∙ block-found s ok two small r rs n k hk h ∙ m.blocks k hk

    none : held r k ≡ 0 → s.blocks ≤ in_line s (number s r n) i l
    none h =
        let e : in_line s (number s r n) (k / s.lines) (k % s.lines) ≡ in_line s (number s r n) i l
        = ap (λ x. in_line s (number s r n) x (k % s.lines)) (row-div i s.lines l hl) ∙ ap (in_line s (number s r n) i) (row-mod i s.lines l hl) in
        omega (arith, e, block_none s ok two small r rs n k hk h)

    -- whether it is marked
    module _ (h : 0 < counter t k) where
      in-slot : slot s i (block t k) ≡ k
      unfolding slot
      in-slot = ap (λ x. i * s.lines + x) (sym ((sd.line k hk).proper h) ∙ row-mod i s.lines l hl)

      marked-told : eqb (digit (number s r n) (block t k).0) (4 + i) ≡ marked t k
      unfolding marked holds
      marked-told =
          let kp : keeps s r i (block t k) ≡ true = kept i (block t k) hi ∙ rw in-slot (true-holds_at t k (block t k) h refl) in
          go (eqb (digit (number s r n) (block t k).0) (4 + i))
          (ap (λ x. cond (eqb x (4 + i)) 1 0) (digit-number s r n (block t k).0 (omega (arith, (sd.line k hk).below h)))
          ∙ mark-state s ok two small r rs i (block t k) hi kp ∙ ap (λ x. at r.marks x) in-slot ∙ m.marks k hk)
        where
          go : (c : Bool) → cond c 1 0 ≡ mark t k → c ≡ eqb (mark t k) 1
          go true e = sym (eq-eqb (mark t k) 1 (sym e))
          go false e = sym (ne_eqb (mark t k) 1 (omega (arith, e)))

    pub evicting-codes : evicting_codes s (number s r n) i l ≡ coded (evicting t i k)
    unfolding evicting_codes leaving_codes evicting saving
    evicting-codes = go (under? 0 (counter t k))
      where
        go : Under 0 (counter t k) → evicting_codes s (number s r n) i l ≡ coded (evicting t i k)
        go (under h e) =
            rw (e, found (m.held k hk ∙ rw e), lt-ltb (block t k).0 s.blocks ((sd.line k hk).below h), marked-told h) (both (marked t k))
          where
            both : (c : Bool) → cond c (move_code i (block t k).0 ∷ drop_code i (block t k).0 ∷ []) (drop_code i (block t k).0 ∷ []) ≡ coded (cond c (WriteBack i (block t k) ∷ []) [] ++ Drop i (block t k) ∷ [])
            both true = refl
            both false = refl
        go (over h e) = rw (e, le-ltb (in_line s (number s r n) i l) s.blocks (none (m.held k hk ∙ rw e)))

  -- ---- the parts of a request by processor i

  module _ (i : ℕ) (hi : i < 2) where
    pub clearing-codes : (j : ℕ) → j ≤ s.lines → clearing_codes s (number s r n) i j ≡ coded (clearing s t i j)
    clearing-codes zero h = refl
    clearing-codes (suc j) h =
        ap (λ x. x ++ evicting_codes s (number s r n) i j) (clearing-codes j (omega arith))
        ∙ ap (λ x. coded (clearing s t i j) ++ x) (evicting-codes i j hi h ∙ ap coded (sym (evicting-same t (cleared s t i j) i (line_slot s i j) (cleared-later s t i j h))))
        ∙ sym (coded-append (clearing s t i j) (evicting (cleared s t i j) i (line_slot s i j)))

    module _ (b : Block) (hb : b.0 < s.blocks) where
      pub obtaining-codes : obtaining_codes s (number s r n) i b.0 ≡ coded (obtaining s t i b)
      unfolding obtaining_codes obtaining slot
      obtaining-codes = rw (told i b hi (omega arith)) (go (holds s t i b))
        where
          go : (c : Bool) → cond c [] (evicting_codes s (number s r n) i (line_of s b) ++ move_code i b.0 ∷ []) ≡ coded (cond c [] (evicting t i (line_slot s i (line_of s b)) ++ Fetch i b ∷ []))
          go true = refl
          go false =
              ap (λ x. x ++ move_code i b.0 ∷ []) (evicting-codes i (line_of s b) hi (line-lt s ok b)) ∙ sym (coded-append (evicting t i (line_slot s i (line_of s b))) (Fetch i b ∷ []))

      -- the other processor's copy is as it was
      there : holds s (obtained s t i b) (1 - i) b ≡ holds s t (1 - i) b
      unfolding holds
      there = same-holds_at t (obtained s t i b) (slot s (1 - i) b) b (obtained-apart s ok t sd.lengths i b (omega arith) (1 - i) b (omega arith))

      pub sharing-told : sharing s (obtained s t i b) i b ≡ has (1 - i) (digit (number s r n) b.0)
      sharing-told = two-sharing s two (obtained s t i b) i b hi ∙ there ∙ sym (told (1 - i) b (omega arith) (omega arith))

      pub paying-codes : (c : List ℕ) → (holds s t (1 - i) b ≡ true → at c (counter_index (1 - i) b.0) ≡ counter t (slot s (1 - i) b))
          → paying_codes (number s r n) c i b.0 ≡ coded (paying s (obtained s t i b) i b)
      unfolding paying_codes paying
      paying-codes c f = rw (← sharing-told) (go (known (sharing s (obtained s t i b) i b)))
        where
          go : Known (sharing s (obtained s t i b) i b)
              → cond (sharing s (obtained s t i b) i b && eqb (at c (counter_index (1 - i) b.0)) 1) (drop_code (1 - i) b.0 ∷ []) []
              ≡ coded (cond (sharing s (obtained s t i b) i b && eqb (counter (obtained s t i b) (slot s (payer s (obtained s t i b) i b) b)) 1) (Drop (payer s (obtained s t i b) i b) b ∷ []) [])
          go (sure e) =
              let a : holds s t (1 - i) b ≡ true = sym (two-sharing s two (obtained s t i b) i b hi ∙ there) ∙ e in
              rw (e, two-payer s two (obtained s t i b) i b hi e, (obtained-apart s ok t sd.lengths i b (omega arith) (1 - i) b (omega arith)).counters, f a)
              (last (eqb (counter t (slot s (1 - i) b)) 1))
            where
              last : (x : Bool) → cond x (drop_code (1 - i) b.0 ∷ []) [] ≡ coded (cond x (Drop (1 - i) b ∷ []) [])
              last true = refl
              last false = refl
          go (not_so e) = rw e

    -- ---- the request

    pub serving-codes : (c : List ℕ) → ((b : ℕ) → b < s.blocks → holds s t (1 - i) (block_no b) ≡ true → at c (counter_index (1 - i) b) ≡ counter t (slot s (1 - i) (block_no b)))
        → (o : Operation) → Named s o → serving_codes s (number s r n) c (asked_by s i o) ≡ coded (serving_by s t i o)
    unfolding serving_codes
    serving-codes c f (Read v) h =
        let b : Block = block_of s v in
        let hb : b.0 < s.blocks = block-lt s ok v h in
        let a = read_asked i b.0 hi (omega arith) in
        rw (a.low, a.processor, a.block, a.written)
        (ap (λ x. x ++ 16 ∷ []) (obtaining-codes b hb) ∙ sym (coded-append (obtaining s t i b) (Complete ∷ [])))
    serving-codes c f (Write v x) h =
        let b : Block = block_of s v in
        let hb : b.0 < s.blocks = block-lt s ok v h in
        let a = write-asked i b.0 hi (omega arith) in
        let es : List Entry = paying s (obtained s t i b) i b in
        rw (a.low, a.processor, a.block, a.written)
        (ap (λ x. x ++ 16 ∷ paying_codes (number s r n) c i b.0) (obtaining-codes b hb) ∙ ap (λ x. coded (obtaining s t i b) ++ 16 ∷ x) (paying-codes b hb c (f b.0 hb))
        ∙ sym (coded-append (obtaining s t i b) (Complete ∷ es)))
    serving-codes c f Clear h =
        let q : (16 + i) % 2 ≡ i = omega arith in
        rw (le-ltb (16 + i) 16 (omega arith), q)
        (ap (λ x. x ++ 16 ∷ []) (clearing-codes s.lines (le_refl _)) ∙ sym (coded-append (clearing s t i s.lines) (Complete ∷ [])))
