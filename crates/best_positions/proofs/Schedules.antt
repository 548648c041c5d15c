-- Paths among the positions are schedules, and what was tried on them is what was tried.
use Prim.Native.Nat.{ℕ, zero, suc, ◌+◌, ◌-◌, ◌*◌, ◌/◌, ◌%◌, ◌≤◌, ◌<◌}
use mathlib.Core.Path.{◌≡◌, refl, sym, ap, ◌∙◌, subst}
use mathlib.Core.Bool.{Bool, true, false, not, ◌&&◌, cond, true≢false}
use mathlib.Core.List.{List, [], ◌∷◌}
use native.Mathlib.Omega.{arith}
use lib.ListN.{length, drop, length-drop, drop_of_length-le}
use lib.Dec.{ltb, eqb}
use borrow.Author.Tests.{ltb-true, ltb-false, lt-ltb, le-ltb, eqb-true, eqb-false, eq-eqb, ne_eqb}
use Rattle.protocol_types.specs.Lists.{at}
use Rattle.protocol_types.specs.Refusals.{no_refusal, line_in_use, block_not_held, no_request_left}
use Rattle.protocol_types.specs.Board.{Fits, slots, slot}
use Rattle.protocol_types.specs.Conditions.{AllValid}
use Rattle.protocol.specs.Accounts.{cycles}
use Rattle.protocol.specs.Rival.{Rival, no_copies, keeps_at, keeps, played, left, refusal_next, refusal, end_refusal, Legal, costs}
use Rattle.protocol_types.specs.declared.Setup.{Setup}
use Rattle.protocol_types.specs.declared.Block.{Block}
use Rattle.protocol_types.specs.declared.Request.{Request}
use Rattle.protocol_types.specs.declared.Entry.{Entry}
use Rattle.protocol_types.specs.declared.Entry.TheVariants.{Fetch, WriteBack, Drop, Complete, CompleteByBroadcast}
use Rattle.protocol_types.proofs.Laws.{Same, same, apart, same?, Under, under, over, under?, choice, chosen-zero, both_true, and-true, at-zeros}
use Rattle.protocol.proofs.Rival.{move-legal}
use Rattle.competitive.proofs.Bound.{held}
use Rattle.best_search.specs.Search.{Graph, size, layer, Tried, forward, walk, Lawful, total, is, was_tried, reached, Trace, EachTried}
use Rattle.best_search.proofs.Machine.{Closed}
use Rattle.best_positions.specs.Position.{block_no, state_of, block_state, has, number, digit, served_of, with_digit, fetched_state, written_back_state, dropped_state, moved_state, move_legal, completion_legal, completed_state, completed, asked_all, moving_processor, moved_block, is_drop, entry_of, entry_number, entry_from, number_of, numbers_of, entries_from, legal_at, next_at, board, rival_of}
use Rattle.best_positions.specs.Best.{spelled, engine_cycles, served_by, Trial, trial, trials, Among, here, there, EveryTried, Reached, from_start, by-trial, Trials}
use Rattle.best_positions.proofs.RivalSound.{RivalSound, sound-no_copies, sound-played}
use Rattle.best_positions.proofs.Coding.{has-state, served-number, digit-number, served-with, digit_lt, rival-back}
use Rattle.best_positions.proofs.Entries.{Agrees, agrees, length-asked}

-- ---- entries and their numbers

abbrev pub code_of : Entry → ℕ
code_of (Fetch i b) = 8 * i + 2 * b.0
code_of (WriteBack i b) = 8 * i + 2 * b.0
code_of (Drop i b) = 8 * i + 2 * b.0 + 1
code_of Complete = 16
code_of CompleteByBroadcast = 17

-- number k is a move of processor i and block b; a drop where c
record MoveCode (k i b : ℕ) (c : Bool) : Type 0 where
  low : k < 16
  processor : moving_processor k ≡ i
  block : moved_block k ≡ b
  dropped : is_drop k ≡ c

even-code : (i b : ℕ) → i < 2 → b < 4 → MoveCode (8 * i + 2 * b) i b false
even-code i b hi hb = record { low = omega arith; processor = omega arith; block = omega arith; dropped = ne_eqb ((8 * i + 2 * b) % 2) 1 (omega arith) }

odd_code : (i b : ℕ) → i < 2 → b < 4 → MoveCode (8 * i + 2 * b + 1) i b true
odd_code i b hi hb = record { low = omega arith; processor = omega arith; block = omega arith; dropped = eq-eqb ((8 * i + 2 * b + 1) % 2) 1 (omega arith) }

module _ (k i b : ℕ) (c : Bool) (m : MoveCode k i b c) where
  -- the entry of that number
  move-entry : (u : ℕ) → entry_of u k ≡ cond c (Drop i (block_no b)) (cond (has i (digit u b)) (WriteBack i (block_no b)) (Fetch i (block_no b)))
  unfolding entry_of
  move-entry u = rw (lt-ltb k 16 m.low, m.dropped, m.processor, m.block)

  -- and the entry that it tells by itself, and 18 more
  move-told : entry_from k ≡ cond c (Drop i (block_no b)) (Fetch i (block_no b))
  unfolding entry_from
  move-told = rw (lt-ltb k 16 m.low, m.dropped, m.processor, m.block)

  back-told : entry_from (k + 18) ≡ WriteBack i (block_no b)
  unfolding entry_from
  back-told =
      rw (le-ltb (k + 18) 16 (omega arith), ne_eqb (k + 18) 16 (omega arith), ne_eqb (k + 18) 17 (omega arith))
      (let p : (k + 18 - 18) / 8 ≡ i = omega (arith, m.processor) in let q : (k + 18 - 18) / 2 % 4 ≡ b = omega (arith, m.block) in rw (p, q))

-- no two numbers are one entry of a position
pub code-back : (u k : ℕ) → k < 18 → code_of (entry_of u k) ≡ k
unfolding entry_of
code-back u k h =
    choice (λ e. code_of e ≡ k) (ltb k 16)
    (λ a. choice (λ e. code_of e ≡ k) (eqb (k % 2) 1) (λ c. omega (arith, ltb-true k 16 a, eqb-true (k % 2) 1 c))
    (λ c. choice (λ e. code_of e ≡ k) (has (k / 8) (digit u (k / 2 % 4))) (λ d. omega (arith, ltb-true k 16 a, eqb-false (k % 2) 1 c)) (λ d. omega (arith, ltb-true k 16 a, eqb-false (k % 2) 1 c))))
    (λ a. choice (λ e. code_of e ≡ k) (eqb k 16) (λ c. sym (eqb-true k 16 c)) (λ c. omega (arith, ltb-false k 16 a, eqb-false k 16 c)))

-- an entry's number tells it
number-entry : (u k : ℕ) → k < 18 → entry_from (entry_number u k) ≡ entry_of u k
unfolding entry_from entry_number entry_of
number-entry u k h = go (under? k 16)
  where
    go : Under k 16 → entry_from (entry_number u k) ≡ entry_of u k
    go (under l p) = rw p (move (is_drop k) refl (has (moving_processor k) (digit u (moved_block k))))
      where
        move : (c : Bool) → is_drop k ≡ c → (t : Bool)
            → entry_from (cond c k (cond t (k + 18) k))
            ≡ cond c (Drop (moving_processor k) (block_no (moved_block k))) (cond t (WriteBack (moving_processor k) (block_no (moved_block k))) (Fetch (moving_processor k) (block_no (moved_block k))))
        move true e t = rw (p, e)
        move false e true = rw (le-ltb (k + 18) 16 (omega arith), ne_eqb (k + 18) 16 (omega arith), ne_eqb (k + 18) 17 (omega arith)) (let q : k + 18 - 18 ≡ k = omega arith in rw q)
        move false e false = rw (p, e)
    go (over l p) = last (same? k 16)
      where
        last : Same k 16 → entry_from (entry_number u k) ≡ entry_of u k
        last (same e q) = rw e
        last (apart d q) = let e : k ≡ 17 = omega arith in rw e

pub spelled-numbers : (s : Setup) (asks : List ℕ) (u : ℕ) (ks : List ℕ) → Lawful (board s asks) u ks → entries_from (forward (board s asks) entry_number u ks) ≡ spelled asks u ks
unfolding board
spelled-numbers s asks u [] l = refl
spelled-numbers s asks u (k ∷ ks) l = λ i. number-entry u k l.0 i ∷ spelled-numbers s asks (next_at asks u k) ks l.2 i

module _ (s : Setup) (two : s.processors ≡ 2) (small : s.blocks ≤ 4) (r : Rival) (n : ℕ) (qs : List Request) where
  pub code_lt : (e : Entry) → refusal s r qs e ≡ 0 → code_of e < 18
  code_lt (Fetch i b) h = let v = move-legal s i b _ h in omega (arith, v.processor, v.block)
  code_lt (WriteBack i b) h = let v = move-legal s i b _ h in omega (arith, v.processor, v.block)
  code_lt (Drop i b) h = let v = move-legal s i b _ h in omega (arith, v.processor, v.block)
  code_lt Complete h = omega arith
  code_lt CompleteByBroadcast h = omega arith

  not-kept : (i : ℕ) (b : Block) → held r (slot s i b) ≡ 0 → keeps s r i b ≡ false
  unfolding keeps keeps_at
  not-kept i b h = rw (ne_eqb (held r (slot s i b)) 1 (omega arith))

  has_here : (i : ℕ) (b : Block) → i < 2 → b.0 < 4 → has i (digit (number s r n) b.0) ≡ keeps s r i b
  has_here i b hi hb = ap (has i) (digit-number s r n b.0 hb) ∙ has-state s r i b hi

  -- an even number is a write-back where the block is held, a fetch where it is not
  even-back : (i : ℕ) (b : Block) (c : Bool) → i < 2 → b.0 < 4 → keeps s r i b ≡ c → entry_of (number s r n) (8 * i + 2 * b.0) ≡ cond c (WriteBack i b) (Fetch i b)
  even-back i b c hi hb e =
      move-entry (8 * i + 2 * b.0) i b.0 false (even-code i b.0 hi hb) (number s r n)
      ∙ ap (λ z. cond z (WriteBack i b) (Fetch i b)) (has_here i b hi hb ∙ e)

  -- every legal entry has its number
  pub entry-back : (e : Entry) → refusal s r qs e ≡ 0 → entry_of (number s r n) (code_of e) ≡ e
  unfolding entry_of
  entry-back (Fetch i b) h =
      let v = move-legal s i b _ h in
      even-back i b false (omega (arith, v.processor)) (omega (arith, v.block))
      (not-kept i b (eqb-true _ _ (chosen-zero (eqb (held r (slot s i b)) 0) no_refusal line_in_use (omega arith) v.rest).0))
  entry-back (WriteBack i b) h =
      let v = move-legal s i b _ h in
      even-back i b true (omega (arith, v.processor)) (omega (arith, v.block)) (chosen-zero (keeps s r i b) no_refusal block_not_held (omega arith) v.rest).0
  entry-back (Drop i b) h =
      let v = move-legal s i b _ h in
      move-entry (8 * i + 2 * b.0 + 1) i b.0 true (odd_code i b.0 (omega (arith, v.processor)) (omega (arith, v.block))) (number s r n)
  entry-back Complete h = refl
  entry-back CompleteByBroadcast h = refl

-- ---- the entries of a legal schedule and their numbers

module _ (s : Setup) (two : s.processors ≡ 2) (small : s.blocks ≤ 4) where
  entry-told : (r : Rival) (qs : List Request) (e : Entry) → refusal s r qs e ≡ 0 → entry_from (number_of e) ≡ e
  unfolding entry_from
  entry-told r qs (Fetch i b) h =
      let v = move-legal s i b _ h in
      move-told (8 * i + 2 * b.0) i b.0 false (even-code i b.0 (omega (arith, v.processor)) (omega (arith, v.block)))
  entry-told r qs (WriteBack i b) h =
      let v = move-legal s i b _ h in
      back-told (8 * i + 2 * b.0) i b.0 false (even-code i b.0 (omega (arith, v.processor)) (omega (arith, v.block)))
  entry-told r qs (Drop i b) h =
      let v = move-legal s i b _ h in
      move-told (8 * i + 2 * b.0 + 1) i b.0 true (odd_code i b.0 (omega (arith, v.processor)) (omega (arith, v.block)))
  entry-told r qs Complete h = refl
  entry-told r qs CompleteByBroadcast h = refl

  pub entries-told : (r : Rival) (qs : List Request) (es : List Entry) → Legal s r qs es → entries_from (numbers_of es) ≡ es
  entries-told r qs [] l = refl
  entries-told r qs (e ∷ es) l = λ i. entry-told r qs e l.0 i ∷ entries-told (played s r qs e) (left qs e) es l.1 i

-- ---- requests left

left-complete : (n : ℕ) (qs : List Request) → left (drop n qs) Complete ≡ drop (suc n) qs
left-complete zero [] = refl
left-complete zero (q ∷ qs) = refl
left-complete (suc n) [] = refl
left-complete (suc n) (q ∷ qs) = left-complete n qs

left-drop : (qs : List Request) (n : ℕ) (e : Entry) → left (drop n qs) e ≡ drop (served_by n e) qs
left-drop qs n (Fetch i b) = refl
left-drop qs n (WriteBack i b) = refl
left-drop qs n (Drop i b) = refl
left-drop qs n Complete = left-complete n qs
left-drop qs n CompleteByBroadcast = left-complete n qs

-- an entry that needs a request has one
next-there : (s : Setup) (r : Rival) (qs : List Request) (n : ℕ) (c : Bool) → refusal_next s r (drop n qs) c ≡ 0 → n < length qs
next-there s r qs n c h = go (under? n (length qs))
  where
    go : Under n (length qs) → n < length qs
    go (under p q) = p
    go (over p q) = let z : ◌≡◌ {A = ℕ} no_request_left 0 = rw (drop_of_length-le qs p) at h in absurd (omega arith)

some_left : (s : Setup) (r : Rival) (qs : List Request) (n : ℕ) (e : Entry) → refusal s r (drop n qs) e ≡ 0 → n ≤ length qs → served_by n e ≤ length qs
some_left s r qs n (Fetch i b) h l = l
some_left s r qs n (WriteBack i b) h l = l
some_left s r qs n (Drop i b) h l = l
some_left s r qs n Complete h l = next-there s r qs n false h
some_left s r qs n CompleteByBroadcast h l = next-there s r qs n true h

none_left : (qs : List Request) (n : ℕ) → n ≤ length qs → end_refusal (drop n qs) ≡ 0 → n ≡ length qs
none_left qs n l e = go (drop n qs) refl e
  where
    go : (ps : List Request) → drop n qs ≡ ps → end_refusal ps ≡ 0 → n ≡ length qs
    go [] p h = omega (arith, length-drop n qs, ap length p)
    go (q ∷ ps) p h = absurd (omega arith)

pub codes-is : (s : Setup) (asks : List ℕ) → (board s asks).codes ≡ 18
unfolding board
codes-is s asks = refl

pub size_is : (s : Setup) (asks : List ℕ) → size (board s asks) ≡ 32400
unfolding board size
size_is s asks = refl

-- ---- the numbers of entries

abbrev pub coded : List Entry → List ℕ
coded [] = []
coded (e ∷ es) = code_of e ∷ coded es

-- ---- empty caches are position 0

pub start-number : (s : Setup) → number s (no_copies s) 0 ≡ 0
unfolding number block_state state_of keeps keeps_at no_copies
start-number s = simp (at-zeros (slots s))

engine-nothing : (s : Setup) → engine_cycles s [] ≡ 0
unfolding engine_cycles
engine-nothing s = refl

-- ---- entries lead to positions, of the same layer or the next

moved-lt : (i d : ℕ) (c : Bool) → i < 2 → d < 6 → moved_state i d c < 6
unfolding moved_state dropped_state written_back_state fetched_state
moved-lt i d c hi hd =
    choice (λ z. z < 6) c (λ e. choice (λ z. z < 6) (eqb d 3) (λ f. omega arith) (λ f. omega arith))
    (λ e. choice (λ z. z < 6) (has i d) (λ f. choice (λ z. z < 6) (eqb d (4 + i)) (λ x. omega arith) (λ x. omega arith))
    (λ f. choice (λ z. z < 6) (eqb d 0) (λ x. omega arith) (λ x. omega arith)))

completed-lt : (a d : ℕ) → d < 6 → completed_state a d < 6
unfolding completed_state
completed-lt a d h = choice (λ z. z < 6) (eqb (a / 2 % 2) 1 && not (eqb d 3)) (λ e. omega arith) (λ e. omega arith)

served-completed : (u a : ℕ) (c : Bool) → served_of (completed u a c) ≡ suc (served_of u)
unfolding completed served_of
served-completed u a c =
    choice (λ z. z / 1296 ≡ suc (u / 1296)) (ltb a 16 && not c) (λ e. omega (arith, with-same))
    (λ e. omega arith)
  where
    with-same : with_digit u (a / 4) (completed_state a (digit u (a / 4))) / 1296 ≡ u / 1296
    with-same = served-with u (a / 4) (completed_state a (digit u (a / 4))) (completed-lt a (digit u (a / 4)) (digit_lt u (a / 4)))

record Onward (asks : List ℕ) (u v : ℕ) : Type 0 where
  up : served_of u ≤ served_of v
  few : served_of u ≤ length asks → served_of v ≤ length asks
  some : served_of v ≤ served_of u + 1
  none_left : length asks ≤ served_of u → served_of v ≤ served_of u

onwards : (s : Setup) (asks : List ℕ) (u k : ℕ) → legal_at s asks u k ≡ true → Onward asks u (next_at asks u k)
unfolding legal_at next_at
onwards s asks u k = go (under? k 16)
  where
    go : Under k 16 → cond (ltb k 16) (move_legal s u (moving_processor k) (moved_block k) (is_drop k)) (ltb (served_of u) (length asks) && completion_legal u (at asks (served_of u)) (eqb k 17)) ≡ true
        → Onward asks u (cond (ltb k 16) (with_digit u (moved_block k) (moved_state (moving_processor k) (digit u (moved_block k)) (is_drop k))) (completed u (at asks (served_of u)) (eqb k 17)))
    go (under l p) e =
        let q : served_of (with_digit u (moved_block k) (moved_state (moving_processor k) (digit u (moved_block k)) (is_drop k))) ≡ served_of u
        = served-with u (moved_block k) (moved_state (moving_processor k) (digit u (moved_block k)) (is_drop k))
        (moved-lt (moving_processor k) (digit u (moved_block k)) (is_drop k) (omega arith) (digit_lt u (moved_block k))) in
        rw p (record { up = omega arith; few = λ h. omega arith; some = omega arith; none_left = λ h. omega arith })
    go (over l p) e =
        let e' : ltb (served_of u) (length asks) && completion_legal u (at asks (served_of u)) (eqb k 17) ≡ true = rw p at e in
        let h : served_of u < length asks = ltb-true _ _ (both_true _ _ e').0 in
        let q = served-completed u (at asks (served_of u)) (eqb k 17) in
        rw p (record { up = omega arith; few = λ x. omega arith; some = omega arith; none_left = λ x. absurd (omega arith) })

pub next-lt : (s : Setup) (asks : List ℕ) (u k : ℕ) → length asks ≤ 24 → u < 32400 → legal_at s asks u k ≡ true → next_at asks u k < 32400
unfolding served_of
next-lt s asks u k h l a = go (under? (u / 1296) (length asks))
  where
    o : Onward asks u (next_at asks u k)
    o = onwards s asks u k a

    go : Under (u / 1296) (length asks) → next_at asks u k < 32400
    go (under p q) = omega (arith, o.some)
    go (over p q) = omega (arith, o.none_left p)

-- whatever the requests: entries lead to positions, and never back to an earlier layer
pub closed-asks : (s : Setup) (asks : List ℕ) (own : ℕ) → length asks ≤ 24 → (length asks ≡ 0 → own ≡ 0) → Closed (board s asks) own
unfolding board layer served_of
closed-asks s asks own h f = record {
  some = omega (arith, size_is s asks);
  wide = omega arith;
  inside = λ u k l lk a. omega (arith, next-lt s asks u k h (omega (arith, l, size_is s asks)) a, size_is s asks);
  later = λ u k a. (onwards s asks u k a).up;
  at-start = λ e. f (sym (eqb-true 0 (length asks) e));
}

module _ (s : Setup) (ok : Fits s) (two : s.processors ≡ 2) (small : s.blocks ≤ 4) (qs : List Request) (short : length qs ≤ 24) (valid : AllValid s qs) where
  abbrev g : Graph
  g = board s (asked_all s qs)

  next-board : (u k : ℕ) → g.next u k ≡ next_at (asked_all s qs) u k
  unfolding board
  next-board u k = refl

  -- ---- at the number of sound copies

  module _ (r : Rival) (sd : RivalSound s r) (n : ℕ) where
    back : rival_of s (number s r n) ≡ r
    back = rival-back s ok two small r sd n

    pub agrees_at : (k : ℕ) → k < 18 → Agrees s r n (drop n qs) (entry_of (number s r n) k) (g.legal (number s r n) k) (g.next (number s r n) k) (g.price (number s r n) k)
    unfolding board
    agrees_at k l = agrees s ok two small qs valid r sd n k l

    pub agrees-of : (e : Entry) → refusal s r (drop n qs) e ≡ 0
        → Agrees s r n (drop n qs) e (g.legal (number s r n) (code_of e)) (g.next (number s r n) (code_of e)) (g.price (number s r n) (code_of e))
    agrees-of e h = rw (entry-back s two small r n (drop n qs) e h) at (agrees_at (code_of e) (code_lt s two small r n (drop n qs) e h))

    final-at : g.final (number s r n) ≡ eqb n (length qs)
    unfolding board
    final-at = rw (served-number s r n, length-asked s qs)

    -- a legal number is a legal entry
    legal-entry : (k : ℕ) → k < 18 → g.legal (number s r n) k ≡ true → refusal s r (drop n qs) (entry_of (number s r n) k) ≡ 0
    legal-entry k l a = eqb-true _ _ (sym (agrees_at k l).legal-is ∙ a)

  -- ---- a schedule is a path

  pub record PathOf (r : Rival) (n : ℕ) (es : List Entry) : Type 0 where
    pub lawful : Lawful g (number s r n) (coded es)
    pub total-is : total g (number s r n) (coded es) ≡ cycles (costs s r (drop n qs) es)
    pub ends : g.final (walk g (number s r n) (coded es)) ≡ true

  pub path-of : (es : List Entry) (r : Rival) → RivalSound s r → (n : ℕ) → n ≤ length qs → Legal s r (drop n qs) es → PathOf r n es
  path-of [] r sd n l h = record { lawful = tt; total-is = refl; ends = final-at r sd n ∙ eq-eqb n (length qs) (none_left qs n l h) }
  path-of (e ∷ es) r sd n l h =
      go (agrees-of r sd n e h.0)
      (path-of es (played s r (drop n qs) e) (sound-played s ok r sd (drop n qs) e h.0) (served_by n e) (some_left s r qs n e h.0 l) (rw (left-drop qs n e) at h.1))
    where
      go : Agrees s r n (drop n qs) e (g.legal (number s r n) (code_of e)) (g.next (number s r n) (code_of e)) (g.price (number s r n) (code_of e))
          → PathOf (played s r (drop n qs) e) (served_by n e) es → PathOf r n (e ∷ es)
      go x w =
          let q = x.next-is h.0 in
          let c = x.price-is h.0 in
          record {
            lawful = (omega (arith, codes-is s (asked_all s qs), code_lt s two small r n (drop n qs) e h.0), x.legal-is ∙ eq-eqb _ 0 h.0, rw q w.lawful);
            total-is = rw q (omega (arith, c, w.total-is, ap (λ z. cycles (costs s (played s r (drop n qs) e) z es)) (left-drop qs n e)));
            ends = ap (λ z. g.final (walk g z (coded es))) q ∙ w.ends;
          }

  -- ---- a path is a schedule

  pub record ScheduleOf (r : Rival) (n : ℕ) (ks : List ℕ) : Type 0 where
    pub legal : Legal s r (drop n qs) (spelled (asked_all s qs) (number s r n) ks)
    pub cost-is : cycles (costs s r (drop n qs) (spelled (asked_all s qs) (number s r n) ks)) ≡ total g (number s r n) ks
    pub long : length (spelled (asked_all s qs) (number s r n) ks) ≡ length ks

  pub schedule-of : (ks : List ℕ) (r : Rival) → RivalSound s r → (n : ℕ) → n ≤ length qs → Lawful g (number s r n) ks → g.final (walk g (number s r n) ks) ≡ true → ScheduleOf r n ks
  schedule-of [] r sd n l h f = record { legal = at-end; cost-is = refl; long = refl }
    where
      at-end : end_refusal (drop n qs) ≡ 0
      at-end = ap end_refusal (drop_of_length-le qs {i = n} (omega (arith, eqb-true n (length qs) (sym (final-at r sd n) ∙ f))))
  schedule-of (k ∷ ks) r sd n l h f =
      go (schedule-of ks r' (sound-played s ok r sd (drop n qs) e ready) n' (some_left s r qs n e ready l) (rw next at h.2) (sym (ap (λ z. g.final (walk g z ks)) next) ∙ f))
    where
      k_lt : k < 18
      k_lt = omega (arith, codes-is s (asked_all s qs), h.0)

      e : Entry
      e = entry_of (number s r n) k

      ready : refusal s r (drop n qs) e ≡ 0
      ready = legal-entry r sd n k k_lt h.1

      r' : Rival
      r' = played s r (drop n qs) e

      n' : ℕ
      n' = served_by n e

      next : g.next (number s r n) k ≡ number s r' n'
      next = (agrees_at r sd n k k_lt).next-is ready

      next' : next_at (asked_all s qs) (number s r n) k ≡ number s r' n'
      next' = sym (next-board (number s r n) k) ∙ next

      go : ScheduleOf r' n' ks → ScheduleOf r n (k ∷ ks)
      go w =
          record {
            legal = rw next' (ready, rw (left-drop qs n e) w.legal);
            cost-is =
                let left_is = ap (λ z. cycles (costs s r' z (spelled (asked_all s qs) (number s r' n') ks))) (left-drop qs n e) in
                rw (next', next) (omega (arith, (agrees_at r sd n k k_lt).price-is ready, w.cost-is, left_is));
            long = rw next' (ap suc w.long);
          }

  -- ---- entries lead to positions

  pub closed-board : Closed g (engine_cycles s qs)
  closed-board = closed-asks s (asked_all s qs) (engine_cycles s qs) (omega (arith, length-asked s qs)) (λ e. no-requests qs (sym (length-asked s qs) ∙ e))
    where
      no-requests : (ps : List Request) → length ps ≡ 0 → engine_cycles s ps ≡ 0
      no-requests [] e = engine-nothing s
      no-requests (q ∷ ps) e = absurd (omega arith)

  -- ---- positions that were reached are numbers of sound copies

  record Coded (u : ℕ) : Type 0 where
    copies : Rival
    served : ℕ
    sound : RivalSound s copies
    in-time : served ≤ length qs
    number_is : u ≡ number s copies served

  coded-start : Coded 0
  coded-start = record { copies = no_copies s; served = 0; sound = sound-no_copies s; in-time = omega arith; number_is = sym (start-number s) }

  coded-next : (u k : ℕ) → Coded u → k < 18 → g.legal u k ≡ true → Coded (g.next u k)
  coded-next u k c l a =
      let a' : g.legal (number s c.copies c.served) k ≡ true = rw c.number_is at a in
      let h = legal-entry c.copies c.sound c.served k l a' in
      let e : Entry = entry_of (number s c.copies c.served) k in
      record {
        copies = played s c.copies (drop c.served qs) e;
        served = served_by c.served e;
        sound = sound-played s ok c.copies c.sound (drop c.served qs) e h;
        in-time = some_left s c.copies qs c.served e h c.in-time;
        number_is = ap (λ z. g.next z k) c.number_is ∙ (agrees_at c.copies c.sound c.served k l).next-is h;
      }

  code-of : {k : ℕ} → k < g.codes → k < 18
  code-of l = omega (arith, l, codes-is s (asked_all s qs))

  coded-reached : (xs : List Tried) (u : ℕ) → Trace g xs → reached g xs u ≡ true → Coded u
  coded-reached [] u t h = rw (eqb-true u 0 h) coded-start
  coded-reached (x ∷ xs) u t h = go (eqb (g.next x.position x.code) u) refl h (coded-reached xs x.position t.4 t.2) (λ f. coded-reached xs u t.4 f)
    where
      go : (c : Bool) → eqb (g.next x.position x.code) u ≡ c → cond c true (reached g xs u) ≡ true → Coded x.position → (reached g xs u ≡ true → Coded u) → Coded u
      go true e f c k = subst Coded (eqb-true _ _ e) (coded-next x.position x.code c (code-of t.0) t.1)
      go false e f c k = k f

  -- ---- what was tried, as entries

  copies_at : (u : ℕ) (c : Coded u) → rival_of s u ≡ c.copies
  copies_at u c = ap (rival_of s) c.number_is ∙ back c.copies c.sound c.served

  served-at : (u : ℕ) (c : Coded u) → served_of u ≡ c.served
  served-at u c = ap served_of c.number_is ∙ served-number s c.copies c.served

  number_at : (u : ℕ) → Coded u → number s (rival_of s u) (served_of u) ≡ u
  number_at u c = (λ i. number s (copies_at u c i) (served-at u c i)) ∙ sym c.number_is

  sound-at : (u : ℕ) → Coded u → RivalSound s (rival_of s u)
  sound-at u c = subst (RivalSound s) (sym (copies_at u c)) c.sound

  -- a trial of this position and this entry is that try
  this-one : (x : Tried) → Coded x.position → x.code < 18 → (r : Rival) (n : ℕ) (e : Entry)
      → ◌≡◌ {A = Trial} (record { copies = r; served = n; entry = e }) (trial s x) → is x (number s r n) (code_of e) ≡ true
  unfolding is
  this-one x c l r n e p =
      let q : number s r n ≡ x.position = (λ i. number s (p i).copies (p i).served) ∙ number_at x.position c in
      let f : code_of e ≡ x.code = ap (λ (z : Trial). code_of z.entry) p ∙ code-back x.position x.code l in
      and-true (eq-eqb x.position (number s r n) (sym q)) (eq-eqb x.code (code_of e) (sym f))

  among-tried : (xs : List Tried) → Trace g xs → (r : Rival) (n : ℕ) (e : Entry) → Among (record { copies = r; served = n; entry = e }) (trials s xs) → was_tried xs (number s r n) (code_of e) ≡ true
  among-tried [] t r n e a = elim a [ ]
  among-tried (x ∷ xs) t r n e (there a) = choice (λ z. z ≡ true) (is x (number s r n) (code_of e)) (λ f. refl) (λ f. among-tried xs t.4 r n e a)
  among-tried (x ∷ xs) t r n e (here p) = rw (this-one x (coded-reached xs x.position t.4 t.2) (code-of t.0) r n e p)

  pub each-tried : (xs : List Tried) → Trace g xs → (es : List Entry) (r : Rival) → RivalSound s r → (n : ℕ) → Legal s r (drop n qs) es
      → EveryTried s (trials s xs) r n (drop n qs) es → EachTried g xs (number s r n) (coded es)
  each-tried xs t [] r sd n h v = tt
  each-tried xs t (e ∷ es) r sd n h v = (
    among-tried xs t r n e v.0,
    rw ((agrees-of r sd n e h.0).next-is h.0)
        (each-tried xs t es (played s r (drop n qs) e) (sound-played s ok r sd (drop n qs) e h.0) (served_by n e) (rw (left-drop qs n e) at h.1) (rw (left-drop qs n e) at v.1)),
  )

  -- ---- the tries are trials

  -- a try's entry agrees with the rules where it stands
  agrees-there : (u k : ℕ) → Coded u → k < 18 → Agrees s (rival_of s u) (served_of u) (drop (served_of u) qs) (entry_of u k) (g.legal u k) (g.next u k) (g.price u k)
  agrees-there u k c l = rw (number_at u c) at (agrees_at (rival_of s u) (sound-at u c) (served_of u) k l)

  legal-try : (u k : ℕ) → Coded u → k < 18 → g.legal u k ≡ true → refusal s (rival_of s u) (drop (served_of u) qs) (entry_of u k) ≡ 0
  legal-try u k c l a = eqb-true _ _ (sym (agrees-there u k c l).legal-is ∙ a)

  still-reached : (x : Trial) (xs : List Trial) (r : Rival) (n : ℕ) → Reached s qs xs r n → Reached s qs (x ∷ xs) r n
  still-reached x xs r n (from_start p q) = from_start p q
  still-reached x xs r n (by-trial y a p q) = by-trial y (there a) p q

  reached-trial : (xs : List Tried) (u : ℕ) → Trace g xs → reached g xs u ≡ true → Reached s qs (trials s xs) (rival_of s u) (served_of u)
  reached-trial [] u t h = from_start (ap (rival_of s) p ∙ back (no_copies s) (sound-no_copies s) 0) (ap served_of p ∙ served-number s (no_copies s) 0)
    where
      p : u ≡ number s (no_copies s) 0
      p = eqb-true u 0 h ∙ sym (start-number s)
  reached-trial (x ∷ xs) u t h = go (eqb (g.next x.position x.code) u) refl h (coded-reached xs x.position t.4 t.2) (λ f. reached-trial xs u t.4 f)
    where
      e : Entry
      e = entry_of x.position x.code

      r' : Rival
      r' = played s (rival_of s x.position) (drop (served_of x.position) qs) e

      n' : ℕ
      n' = served_by (served_of x.position) e

      go : (c : Bool) → eqb (g.next x.position x.code) u ≡ c → cond c true (reached g xs u) ≡ true → Coded x.position
          → (reached g xs u ≡ true → Reached s qs (trials s xs) (rival_of s u) (served_of u)) → Reached s qs (trials s (x ∷ xs)) (rival_of s u) (served_of u)
      go true q f c k =
          let h = legal-try x.position x.code c (code-of t.0) t.1 in
          let p : u ≡ number s r' n' = sym (eqb-true _ _ q) ∙ (agrees-there x.position x.code c (code-of t.0)).next-is h in
          by-trial (trial s x) (here refl)
          (ap (rival_of s) p ∙ back r' (sound-played s ok (rival_of s x.position) (sound-at x.position c) (drop (served_of x.position) qs) e h) n') (ap served_of p ∙ served-number s r' n')
      go false q f c k = still-reached (trial s x) (trials s xs) (rival_of s u) (served_of u) (k f)

  pub trials-of : (xs : List Tried) → Trace g xs → Trials s qs (trials s xs)
  trials-of [] t = tt
  trials-of (x ∷ xs) t = (legal-try x.position x.code c (code-of t.0) t.1, reached-trial xs x.position t.4 t.2, again, trials-of xs t.4)
    where
      c : Coded x.position
      c = coded-reached xs x.position t.4 t.2

      again : Among (trial s x) (trials s xs) → ⊥
      again a =
          let w : was_tried xs (number s (rival_of s x.position) (served_of x.position)) (code_of (entry_of x.position x.code)) ≡ true
          = among-tried xs t.4 (rival_of s x.position) (served_of x.position) (entry_of x.position x.code) a in
          true≢false (sym (rw (number_at x.position c, code-back x.position x.code (code-of t.0)) at w) ∙ t.3)

pub trials-length : (s : Setup) (xs : List Tried) → length (trials s xs) ≡ length xs
trials-length s [] = refl
trials-length s (x ∷ xs) = ap suc (trials-length s xs)
