-- Demand 3, its second half: lists on which the engine costs 2f + 2fk (2f + fk for fetches, fk for updates) and a legal schedule 2f + fk, all of it for fetches.
use Prim.Native.Nat.{ℕ, zero, suc, ◌+◌, ◌-◌, ◌*◌, ◌≤◌, ◌<◌}
use mathlib.Core.Path.{◌≡◌, refl, sym, ap, ◌∙◌}
use mathlib.Core.Logic.{◌≢◌}
use mathlib.Core.Bool.{Bool, true, false, cond}
use mathlib.Core.List.{List, [], ◌∷◌, ◌++◌}
use native.Mathlib.Omega.{arith}
use native.Mathlib.Nat.{mul-suc, suc-mul, one-le-mul, zero-div}
use lib.ListN.{length, set, take, drop, replicate, length-replicate, length-set}
use lib.Seq.{sets, set-set, set-get_or, get_or-drop}
use lib.Dec.{ltb, eqb}
use borrow.Author.Tests.{lt-ltb, eqb-true}
use Rattle.protocol_types.specs.Lists.{at, part, zeros, other}
use Rattle.protocol_types.specs.Refusals.{no_refusal}
use Rattle.protocol_types.specs.Board.{setup_refusal, Fits, variables, slots, slot, word_index, block_of, offset_of, fetch_price}
use Rattle.protocol.specs.Tables.{Tables, tables, fresh, holds_at, holds, sharing, marked, memory_words}
use Rattle.protocol.specs.Masks.{fresh_masked}
use Rattle.protocol.specs.Rules.{written_back, emptied, filled, saved, save_cycles, evicted, owner, released, fetched, obtained, fetch_cycles, write_back_cycles, payer, updated_copies, broadcast, charged, written, update_cycles}
use Rattle.protocol_types.specs.Conditions.{Valid, AllValid, request_limit}
use Rattle.protocol.specs.Requests.{served, bill}
use Rattle.protocol.specs.Accounts.{plus, cycles, fresh_account, bill_of}
use Rattle.protocol.specs.Engines.{run, spent}
use Rattle.protocol.specs.Runs.{engine, masked_engine}
use Rattle.protocol.specs.Rival.{Rival, rival, no_copies, keeps_at, keeps, shared, unmarked, rival_fetched, rival_dropped, rival_completed, completion_cycles, move_refusal, completion_refusal, Legal, costs}
use Rattle.competitive.specs.Claims.{TightList}
use Rattle.protocol_types.specs.declared.Setup.{Setup}
use Rattle.protocol_types.specs.declared.Variable.{Variable}
use Rattle.protocol_types.specs.declared.Block.{Block}
use Rattle.protocol_types.specs.declared.Request.{Request}
use Rattle.protocol_types.specs.declared.Operation.TheVariants.{Read, Write}
use Rattle.protocol_types.specs.declared.Bill.{Bill}
use Rattle.protocol_types.specs.Answers.{RunAnswer}
use Rattle.protocol_types.specs.declared.Entry.{Entry}
use Rattle.protocol_types.specs.declared.Entry.TheVariants.{Fetch, Drop, Complete}
use Rattle.protocol_types.proofs.Laws.{Same, same, apart, same?, Under, under, over, under?, choice, other-found, at_set_same, at_set_other, at-set-zero, at-zeros}
use Rattle.protocol_types.proofs.Board.{setup-fits, block-path, slot_lt, slot-inj}
use Rattle.protocol.proofs.Accounts.{bill-path}
use Rattle.protocol.proofs.Holding.{holds_at-true, true-holds_at, sharing-some, payer-found, owner-found}
use Rattle.protocol_types.proofs.Conditions.{variable-passes}
use Rattle.competitive.proofs.Bound.{keeps_at-true, true-keeps_at}
use Rattle.competitive.proofs.Whole.{answers-whole, leaves-whole}

-- ---- the lists

abbrev pub variable0 : Variable
variable0 = record { 0 = 0 }

-- its block
abbrev pub block0 : Block
block0 = record { 0 = 0 }

-- processor i reads variable 0; processor 0 writes 0 to it
abbrev pub read_by : ℕ → Request
read_by i = record { processor = i; operation = Read variable0 }

abbrev pub write0 : Request
write0 = record { processor = 0; operation = Write variable0 0 }

-- k rounds: f writes by 0, and a read by 1
abbrev pub rounds : ℕ → ℕ → List Request
rounds f zero = []
rounds f (suc k) = replicate f write0 ++ read_by 1 ∷ rounds f k

unfoldable pub tight : Setup → ℕ → List Request
tight s k = read_by 0 ∷ read_by 1 ∷ rounds (fetch_price s) k

-- the schedule drops copy 1 before the writes and fetches it again for the read
abbrev pub fetch_for : ℕ → Entry
fetch_for i = Fetch i block0

abbrev pub schedule_rounds : ℕ → ℕ → List Entry
schedule_rounds f zero = []
schedule_rounds f (suc k) = Drop 1 block0 ∷ replicate f Complete ++ fetch_for 1 ∷ Complete ∷ schedule_rounds f k

unfoldable pub tight_schedule : Setup → ℕ → List Entry
tight_schedule s k = fetch_for 0 ∷ Complete ∷ fetch_for 1 ∷ Complete ∷ schedule_rounds (fetch_price s) k

-- x cycles of fetches and y of updates
abbrev fetch_update_bill : ℕ → ℕ → Bill
fetch_update_bill x y = record { fetch = x; write_back = 0; update = y }

-- the slots of variable 0's block at processors 0 and 1
abbrev slot0 : Setup → ℕ
slot0 s = slot s 0 block0

abbrev slot1 : Setup → ℕ
slot1 s = slot s 1 block0

-- zeros, but x at the first of them
abbrev only0 : Setup → ℕ → List ℕ
only0 s x = set (zeros (slots s)) (slot0 s) x

-- and y at the second
abbrev both : Setup → ℕ → ℕ → List ℕ
both s x y = set (only0 s x) (slot1 s) y

-- ---- lists of zeros

set-zeros : (n k : ℕ) → set (zeros n) k 0 ≡ zeros n
set-zeros zero k = refl
set-zeros (suc n) zero = refl
set-zeros (suc n) (suc k) = ap {B = List ℕ} (λ l. 0 ∷ l) (set-zeros n k)

sets-zeros : (vs : List ℕ) (n i : ℕ) → ((o : ℕ) → at vs o ≡ 0) → sets (zeros n) i vs ≡ zeros n
sets-zeros [] n i h = refl
sets-zeros (v ∷ vs) n i h = ap (λ l. sets l (suc i) vs) (ap (set (zeros n) i) (h 0) ∙ set-zeros n i) ∙ sets-zeros vs n (suc i) (λ o. h (suc o))

at-drop-zeros : (n i o : ℕ) → at (drop i (zeros n)) o ≡ 0
at-drop-zeros n i o = get_or-drop i (zeros n) o 0 ∙ at-zeros n (i + o)

at-take-any : (n : ℕ) (l : List ℕ) (o : ℕ) → at l o ≡ 0 → at (take n l) o ≡ 0
at-take-any zero l o h = refl
at-take-any (suc n) [] o h = refl
at-take-any (suc n) (x ∷ l) zero h = h
at-take-any (suc n) (x ∷ l) (suc o) h = at-take-any n l o h

-- ---- tables that are 0 but for the counters

abbrev zeroed : Setup → List ℕ → Tables
zeroed s cs = tables (zeros (slots s)) cs (zeros (slots s)) (zeros (slots s * s.words)) (zeros (variables s))

tables-path : {t u : Tables} → t.blocks ≡ u.blocks → t.counters ≡ u.counters → t.marks ≡ u.marks → t.words ≡ u.words → t.memory ≡ u.memory → t ≡ u
tables-path a b c d e = λ i. record { blocks = a i; counters = b i; marks = c i; words = d i; memory = e i }

module _ (s : Setup) (cs : List ℕ) where
  marked-no : (k : ℕ) → marked (zeroed s cs) k ≡ false
  unfolding marked
  marked-no k = rw (at-zeros (slots s) k)

  emptied-zeroed : (k : ℕ) → emptied s (zeroed s cs) k ≡ zeroed s (set cs k 0)
  unfolding emptied
  emptied-zeroed k =
      tables-path (set-zeros (slots s) k) refl (set-zeros (slots s) k)
      (sets-zeros (zeros s.words) (slots s * s.words) (word_index s k 0) (at-zeros s.words)) refl

  filled-zeroed : (k : ℕ) → filled s (zeroed s cs) k block0 ≡ zeroed s (set cs k (fetch_price s))
  unfolding filled memory_words
  filled-zeroed k =
      tables-path (set-zeros (slots s) k) refl (set-zeros (slots s) k)
      (sets-zeros (part (zeros (variables s)) (word_index s 0 0) s.words) (slots s * s.words) (word_index s k 0)
      (λ o. at-take-any s.words (drop (word_index s 0 0) (zeros (variables s))) o (at-drop-zeros (variables s) (word_index s 0 0) o))) refl

  released-zeroed : released s (zeroed s cs) block0 ≡ zeroed s cs
  unfolding released
  released-zeroed = go (under? (owner s (zeroed s cs) block0) s.processors)
    where
      t : Tables
      t = zeroed s cs

      go : Under (owner s (zeroed s cs) block0) s.processors
          → cond (ltb (owner s t block0) s.processors) (written_back s t (slot s (owner s t block0) block0)) t ≡ t
      go (under l q) = absurd (omega (arith, (owner-found s (zeroed s cs) block0 l).1, at-zeros (slots s) (slot s (owner s (zeroed s cs) block0) block0)))
      go (over l q) = rw q

module _ (s : Setup) (cs : List ℕ) (k : ℕ) where
  evicted-zeroed : evicted s (zeroed s cs) k ≡ zeroed s (set cs k 0)
  unfolding evicted saved
  evicted-zeroed = rw (marked-no s cs k) (emptied-zeroed s cs k)

  refetched-zeroed : fetched s (evicted s (zeroed s cs) k) k block0 ≡ zeroed s (set cs k (fetch_price s))
  unfolding fetched
  refetched-zeroed =
      rw (evicted-zeroed, released-zeroed s (set cs k 0)) (filled-zeroed s (set cs k 0) k) ∙ ap (zeroed s) (set-set cs k 0 (fetch_price s))

-- a read that misses
module _ (s : Setup) (cs : List ℕ) (i : ℕ) (e : at cs (slot s i block0) ≡ 0) where
  misses : holds s (zeroed s cs) i block0 ≡ false
  unfolding holds holds_at
  misses = rw e

  read-served : served s (zeroed s cs) (read_by i) ≡ zeroed s (set cs (slot s i block0) (fetch_price s))
  unfolding served block_of obtained
  read-served = rw (zero-div s.words, misses) (refetched-zeroed s cs (slot s i block0))

  read-bill : bill s (zeroed s cs) (read_by i) ≡ record { fetch = fetch_price s; write_back = 0; update = 0 }
  unfolding bill block_of fetch_cycles write_back_cycles save_cycles
  read-bill = rw (zero-div s.words, misses, marked-no s cs (slot s i block0))

updated_copies-zeros : (s : Setup) (cs : List ℕ) (o n : ℕ) → updated_copies s (zeroed s cs) block0 o 0 n ≡ zeros (slots s * s.words)
updated_copies-zeros s cs o zero = refl
updated_copies-zeros s cs o (suc n) =
    choice (λ z. z ≡ zeros (slots s * s.words)) (holds s (zeroed s cs) n block0)
    (λ e. rw (updated_copies-zeros s cs o n) (set-zeros (slots s * s.words) (word_index s (slot s n block0) o))) (λ e. updated_copies-zeros s cs o n)

broadcast-zeroed : (s : Setup) (cs : List ℕ) (k o : ℕ) → at cs k ≡ fetch_price s → broadcast s (zeroed s cs) k block0 o 0 ≡ zeroed s cs
unfolding broadcast
broadcast-zeroed s cs k o e =
    tables-path refl (ap (set cs k) (sym e) ∙ set-get_or cs k 0) refl (updated_copies-zeros s cs o s.processors) (set-zeros (variables s) (word_index s 0 o))

charged-zeroed : (s : Setup) (cs : List ℕ) (k : ℕ) → charged s (zeroed s cs) k ≡ zeroed s (set cs k (at cs k - 1))
unfolding charged
charged-zeroed s cs k =
    choice (λ z. z ≡ zeroed s (set cs k (at cs k - 1))) (eqb (at cs k) 1)
    (λ e. emptied-zeroed s cs k ∙ ap (λ x. zeroed s (set cs k x)) (omega (arith, eqb-true (at cs k) 1 e))) (λ e. refl)

-- ---- processors 0 and 1 hold block 0; copy 1 has counter c

module _ (s : Setup) (ok : Fits s) (two : 2 ≤ s.processors) where
  hk0 : slot0 s < slots s
  hk0 = slot_lt s ok 0 block0 (omega arith)

  hk1 : slot1 s < slots s
  hk1 = slot_lt s ok 1 block0 (omega arith)

  k0≢k1 : slot0 s ≢ slot1 s
  k0≢k1 e = omega (arith, slot-inj s ok 0 1 block0 block0 e)

  at-only-0 : (x : ℕ) → at (only0 s x) (slot0 s) ≡ x
  at-only-0 x = at_set_same (zeros (slots s)) (slot0 s) x (omega (arith, hk0, length-replicate {A = ℕ} (slots s) 0))

  at-only-1 : (x : ℕ) → at (only0 s x) (slot1 s) ≡ 0
  at-only-1 x = at_set_other (zeros (slots s)) (slot0 s) x (slot1 s) (λ e. k0≢k1 (sym e)) ∙ at-zeros (slots s) (slot1 s)

  at-both-0 : (x y : ℕ) → at (both s x y) (slot0 s) ≡ x
  at-both-0 x y = at_set_other (only0 s x) (slot1 s) y (slot0 s) k0≢k1 ∙ at-only-0 x

  at-both-1 : (x y : ℕ) → at (both s x y) (slot1 s) ≡ y
  at-both-1 x y =
      at_set_same (only0 s x) (slot1 s) y (omega (arith, hk1, length-set (zeros (slots s)) (slot0 s) x, length-replicate {A = ℕ} (slots s) 0))

  at-both-other : (x y m : ℕ) → m ≢ slot0 s → m ≢ slot1 s → at (both s x y) m ≡ 0
  at-both-other x y m d e = at_set_other (only0 s x) (slot1 s) y m e ∙ at_set_other (zeros (slots s)) (slot0 s) x m d ∙ at-zeros (slots s) m

  -- the counters of copies 0 and 1
  abbrev pair : ℕ → List ℕ
  pair c = both s (fetch_price s) c

  holds-0 : (c : ℕ) → holds s (zeroed s (pair c)) 0 block0 ≡ true
  unfolding holds
  holds-0 c =
      true-holds_at (zeroed s (pair c)) (slot0 s) block0 (omega (arith, at-both-0 (fetch_price s) c, ok.some-fetch)) (block-path (at-zeros (slots s) (slot0 s)))

  holds-1 : (c : ℕ) → 0 < c → holds s (zeroed s (pair c)) 1 block0 ≡ true
  unfolding holds
  holds-1 c h = true-holds_at (zeroed s (pair c)) (slot1 s) block0 (omega (arith, at-both-1 (fetch_price s) c)) (block-path (at-zeros (slots s) (slot1 s)))

  other-is-1 : (c j : ℕ) → holds s (zeroed s (pair c)) j block0 ≡ true → j ≢ 0 → j ≡ 1
  unfolding holds
  other-is-1 c j e d = go (same? (slot s j block0) (slot0 s)) (same? (slot s j block0) (slot1 s))
    where
      go : Same (slot s j block0) (slot0 s) → Same (slot s j block0) (slot1 s) → j ≡ 1
      go (same p q) x = absurd (d (slot-inj s ok j 0 block0 block0 p))
      go (apart p q) (same g a) = slot-inj s ok j 1 block0 block0 g
      go (apart p q) (apart g a) =
          absurd (omega (arith, (holds_at-true (zeroed s (pair c)) (slot s j block0) block0 e).0, at-both-other (fetch_price s) c (slot s j block0) p g))

  shared-0 : (c : ℕ) → 0 < c → sharing s (zeroed s (pair c)) 0 block0 ≡ true
  shared-0 c h = sharing-some s (zeroed s (pair c)) 0 block0 1 two (omega arith) (holds-1 c h)

  payer-is-1 : (c : ℕ) → 0 < c → payer s (zeroed s (pair c)) 0 block0 ≡ 1
  payer-is-1 c h =
      let a = payer-found s (zeroed s (pair c)) 0 block0 (shared-0 c h) in
      other-is-1 c (payer s (zeroed s (pair c)) 0 block0) a.passes a.differs

  -- a write by 0 costs 1 and lowers copy 1's counter
  write-served : (c : ℕ) → 0 < c → served s (zeroed s (pair c)) write0 ≡ zeroed s (pair (c - 1))
  unfolding served block_of obtained written
  write-served c h =
      rw (
        zero-div s.words,
        holds-0 c,
        shared-0 c h,
        payer-is-1 c h,
        broadcast-zeroed s (pair c) (slot0 s) (offset_of s variable0) (at-both-0 (fetch_price s) c),
      )
      (charged-zeroed s (pair c) (slot1 s)
      ∙ ap (zeroed s) (set-set (only0 s (fetch_price s)) (slot1 s) c (at (pair c) (slot1 s) - 1) ∙ ap pair (ap (λ x. x - 1) (at-both-1 (fetch_price s) c))))

  write-bill : (c : ℕ) → 0 < c → bill s (zeroed s (pair c)) write0 ≡ record { fetch = 0; write_back = 0; update = 1 }
  unfolding bill block_of fetch_cycles write_back_cycles update_cycles obtained
  write-bill c h = rw (zero-div s.words, holds-0 c, shared-0 c h)

  -- a read by 1 without its copy
  reread-served : served s (zeroed s (pair 0)) (read_by 1) ≡ zeroed s (pair (fetch_price s))
  reread-served = read-served s (pair 0) 1 (at-both-1 (fetch_price s) 0) ∙ ap (zeroed s) (set-set (only0 s (fetch_price s)) (slot1 s) 0 (fetch_price s))

  -- what the engine spends

  writes-spent : (n m : ℕ) (qs : List Request)
      → spent (engine s) (zeroed s (pair (n + m))) (replicate n write0 ++ qs) ≡ plus (fetch_update_bill 0 n) (spent (engine s) (zeroed s (pair m)) qs)
  writes-spent zero m qs = let e : 0 + m ≡ m = omega arith in rw e (bill-path (omega arith) (omega arith) (omega arith))
  writes-spent (suc n) m qs =
      let e : suc n + m - 1 ≡ n + m = omega arith in
      rw (write-bill (suc n + m) (omega arith), write-served (suc n + m) (omega arith), e, writes-spent n m qs)
      (bill-path (omega arith) (omega arith) (omega arith))

  rounds-spent : (k : ℕ) → spent (engine s) (zeroed s (pair (fetch_price s))) (rounds (fetch_price s) k) ≡ fetch_update_bill (fetch_price s * k) (fetch_price s * k)
  rounds-spent zero = bill-path (omega arith) (omega arith) (omega arith)
  rounds-spent (suc k) =
      let f : ℕ = fetch_price s in
      let e : f ≡ f + 0 = omega arith in
      let g : spent (engine s) (zeroed s (pair 0)) (read_by 1 ∷ rounds f k) ≡ plus (fetch_update_bill f 0) (fetch_update_bill (f * k) (f * k)) =
      rw (read-bill s (pair 0) 1 (at-both-1 (fetch_price s) 0), reread-served, rounds-spent k) in
      ap (λ x. spent (engine s) (zeroed s (pair x)) (rounds f (suc k))) e ∙ writes-spent f 0 (read_by 1 ∷ rounds f k)
      ∙ ap (plus (fetch_update_bill 0 f)) g ∙ bill-path (omega (arith, mul-suc f k)) (omega arith) (omega (arith, mul-suc f k))

  pub tight-spent : (k : ℕ) → spent (engine s) (fresh s) (tight s k) ≡ fetch_update_bill (2 * fetch_price s + fetch_price s * k) (fetch_price s * k)
  unfolding tight fresh
  tight-spent k =
      let e1 = at-only-1 (fetch_price s) in
      rw (
        read-bill s (zeros (slots s)) 0 (at-zeros (slots s) (slot0 s)),
        read-served s (zeros (slots s)) 0 (at-zeros (slots s) (slot0 s)),
        read-bill s (only0 s (fetch_price s)) 1 e1,
        read-served s (only0 s (fetch_price s)) 1 e1,
        rounds-spent k,
      )
      (bill-path (omega arith) (omega arith) (omega arith))

-- ---- the schedule

-- a schedule is legal, and costs c, all of it for fetches
pub record Plays (s : Setup) (r : Rival) (qs : List Request) (es : List Entry) (c : ℕ) : Type 0 where
  pub legal : Legal s r qs es
  pub costs : costs s r qs es ≡ fetch_update_bill c 0

pub rival-path : {r q : Rival} → r.blocks ≡ q.blocks → r.held ≡ q.held → r.marks ≡ q.marks → r ≡ q
rival-path a b c = λ i. record { blocks = a i; held = b i; marks = c i }

module _ (s : Setup) (ok : Fits s) where
  block_0 : 0 < variables s
  block_0 = one-le-mul ok.some_block ok.some_word

  plays-fetch : (r : Rival) (i : ℕ) (qs : List Request) (es : List Entry) (c : ℕ) → i < s.processors → at r.held (slot s i block0) ≡ 0
      → Plays s (rival_fetched s r i block0) qs es c → Plays s r qs (fetch_for i ∷ es) (fetch_price s + c)
  unfolding move_refusal
  plays-fetch r i qs es c h e p = record {
    legal = (rw (lt-ltb i s.processors h, lt-ltb 0 s.blocks ok.some_block, e) refl, p.legal);
    costs = rw p.costs (bill-path (omega arith) (omega arith) (omega arith));
  }

  plays-drop : (r : Rival) (qs : List Request) (es : List Entry) (c : ℕ) → 1 < s.processors → keeps s r 1 block0 ≡ true → at r.marks (slot1 s) ≡ 0
      → Plays s (rival_dropped s r 1 block0) qs es c → Plays s r qs (Drop 1 block0 ∷ es) c
  unfolding move_refusal
  plays-drop r qs es c h k e p = record {
    legal = (rw (lt-ltb 1 s.processors h, lt-ltb 0 s.blocks ok.some_block, k, e) refl, p.legal);
    costs = rw p.costs (bill-path (omega arith) (omega arith) (omega arith));
  }

  plays-read : (r : Rival) (i : ℕ) (qs : List Request) (es : List Entry) (c : ℕ) → i < s.processors → keeps s r i block0 ≡ true
      → Plays s (rival_completed s r (read_by i)) qs es c → Plays s r (read_by i ∷ qs) (Complete ∷ es) c
  unfolding completion_refusal completion_cycles block_of
  plays-read r i qs es c h k p = record {
    legal = (rw (lt-ltb i s.processors h, variable-passes s variable0 _ block_0, zero-div s.words, k) refl, p.legal);
    costs = rw p.costs (bill-path (omega arith) (omega arith) (omega arith));
  }

  plays-write : (r : Rival) (qs : List Request) (es : List Entry) (c : ℕ) → keeps s r 0 block0 ≡ true → shared s r 0 block0 ≡ false
      → Plays s (rival_completed s r write0) qs es c → Plays s r (write0 ∷ qs) (Complete ∷ es) c
  unfolding completion_refusal completion_cycles block_of
  plays-write r qs es c k n p = record {
    legal = (rw (lt-ltb 0 s.processors ok.some-processor, variable-passes s variable0 _ block_0, zero-div s.words, k) refl, p.legal);
    costs = rw (zero-div s.words, n, p.costs) (bill-path (omega arith) (omega arith) (omega arith));
  }

module _ (s : Setup) (ok : Fits s) (two : 2 ≤ s.processors) where
  -- copy 0 is held, copy 1 as h says
  abbrev doubled : ℕ → List ℕ → Rival
  doubled h m = rival (zeros (slots s)) (both s 1 h) m

  keeps-0 : (h : ℕ) (m : List ℕ) → keeps s (doubled h m) 0 block0 ≡ true
  unfolding keeps
  keeps-0 h m = true-keeps_at (doubled h m) (slot0 s) block0 (at-both-0 s ok two 1 h) (at-zeros (slots s) (slot0 s))

  keeps-1 : (m : List ℕ) → keeps s (doubled 1 m) 1 block0 ≡ true
  unfolding keeps
  keeps-1 m = true-keeps_at (doubled 1 m) (slot1 s) block0 (at-both-1 s ok two 1 1) (at-zeros (slots s) (slot1 s))

  -- without copy 1 the block has one holder
  unshared : (m : List ℕ) → shared s (doubled 0 m) 0 block0 ≡ false
  unfolding shared keeps
  unshared m = go (under? (other s.processors 0 H) s.processors)
    where
      H : ℕ → Bool
      H = λ j. keeps_at (doubled 0 m) (slot s j block0) block0

      nobody : (j : ℕ) → j ≢ 0 → keeps_at (doubled 0 m) (slot s j block0) block0 ≡ true
          → Same (slot s j block0) (slot0 s) → Same (slot s j block0) (slot1 s) → ⊥
      nobody j d e (same p q) x = d (slot-inj s ok j 0 block0 block0 p)
      nobody j d e (apart p q) (same g a) =
          omega (arith, (keeps_at-true (doubled 0 m) (slot s j block0) block0 e).0, ap (at (doubled 0 m).held) g, at-both-1 s ok two 1 0)
      nobody j d e (apart p q) (apart g a) =
          omega (arith, (keeps_at-true (doubled 0 m) (slot s j block0) block0 e).0, at-both-other s ok two 1 0 (slot s j block0) p g)

      go : Under (other s.processors 0 H) s.processors → ltb (other s.processors 0 H) s.processors ≡ false
      go (under l q) =
          let a = other-found s.processors 0 H l in
          let j : ℕ = other s.processors 0 H in
          absurd (nobody j a.differs a.passes (same? (slot s j block0) (slot0 s)) (same? (slot s j block0) (slot1 s)))
      go (over l q) = q

  -- fetching copy 1 leaves it unmarked
  rival_fetched-1 : (m : List ℕ) → (n : List ℕ) × (rival_fetched s (doubled 0 m) 1 block0 ≡ doubled 1 n) × (at n (slot1 s) ≡ 0)
  unfolding rival_fetched
  rival_fetched-1 m = (
    (rival_fetched s (doubled 0 m) 1 block0).marks,
    rival-path (set-zeros (slots s) (slot1 s)) (set-set (only0 s 1) (slot1 s) 0 1) refl,
    at-set-zero (unmarked s (doubled 0 m) block0 s.processors) (slot1 s),
  )

  rival_dropped-1 : (m : List ℕ) → (n : List ℕ) × (rival_dropped s (doubled 1 m) 1 block0 ≡ doubled 0 n)
  unfolding rival_dropped
  rival_dropped-1 m =
      ((rival_dropped s (doubled 1 m) 1 block0).marks, rival-path (set-zeros (slots s) (slot1 s)) (set-set (only0 s 1) (slot1 s) 1 0) refl)

  plays-writes : (n : ℕ) (m : List ℕ) (qs : List Request) (es : List Entry) (c : ℕ) → ((m' : List ℕ) → Plays s (doubled 0 m') qs es c)
      → Plays s (doubled 0 m) (replicate n write0 ++ qs) (replicate n Complete ++ es) c
  unfolding rival_completed
  plays-writes zero m qs es c p = p m
  plays-writes (suc n) m qs es c p =
      plays-write s ok (doubled 0 m) (replicate n write0 ++ qs) (replicate n Complete ++ es) c (keeps-0 0 m) (unshared m)
      (plays-writes n (rival_completed s (doubled 0 m) write0).marks qs es c p)

  plays-rounds : (k : ℕ) (m : List ℕ) → at m (slot1 s) ≡ 0
      → Plays s (doubled 1 m) (rounds (fetch_price s) k) (schedule_rounds (fetch_price s) k) (fetch_price s * k)
  unfolding rival_completed
  plays-rounds zero m e = record { legal = refl; costs = bill-path (omega arith) (omega arith) (omega arith) }
  plays-rounds (suc k) m e =
      let f : ℕ = fetch_price s in
      let d = rival_dropped-1 m in
      let c : f * suc k ≡ f + f * k = omega (arith, mul-suc f k) in
      rw c
      (plays-drop s ok (doubled 1 m) (rounds f (suc k)) (replicate f Complete ++ fetch_for 1 ∷ Complete ∷ schedule_rounds f k) (f + f * k) two (keeps-1 m) e
      (rw d.1
      (plays-writes f d.0 (read_by 1 ∷ rounds f k) (fetch_for 1 ∷ Complete ∷ schedule_rounds f k) (f + f * k)
      (λ m'. let t = rival_fetched-1 m' in
      plays-fetch s ok (doubled 0 m') 1 (read_by 1 ∷ rounds f k) (Complete ∷ schedule_rounds f k) (f * k) two (at-both-1 s ok two 1 0)
      (rw t.1 (plays-read s ok (doubled 1 t.0) 1 (rounds f k) (schedule_rounds f k) (f * k) two (keeps-1 t.0) (plays-rounds k t.0 t.2)))))))

  -- copy 0 is held and no other
  abbrev lone : List ℕ → Rival
  lone m = rival (zeros (slots s)) (only0 s 1) m

  keeps-lone : (m : List ℕ) → keeps s (lone m) 0 block0 ≡ true
  unfolding keeps
  keeps-lone m =
      true-keeps_at (lone m) (slot0 s) block0 (at-only-0 s ok two 1) (at-zeros (slots s) (slot0 s))

  rival_fetched-0 : (n : List ℕ) × (rival_fetched s (no_copies s) 0 block0 ≡ lone n)
  unfolding rival_fetched no_copies
  rival_fetched-0 = ((rival_fetched s (no_copies s) 0 block0).marks, rival-path (set-zeros (slots s) (slot0 s)) refl refl)

  rival_fetched-second : (m : List ℕ) → (n : List ℕ) × (rival_fetched s (lone m) 1 block0 ≡ doubled 1 n) × (at n (slot1 s) ≡ 0)
  unfolding rival_fetched
  rival_fetched-second m = (
    (rival_fetched s (lone m) 1 block0).marks,
    rival-path (set-zeros (slots s) (slot1 s)) refl refl,
    at-set-zero (unmarked s (lone m) block0 s.processors) (slot1 s),
  )

  pub tight-plays : (k : ℕ) → Plays s (no_copies s) (tight s k) (tight_schedule s k) (2 * fetch_price s + fetch_price s * k)
  unfolding tight tight_schedule no_copies rival_completed
  tight-plays k =
      let f : ℕ = fetch_price s in
      let a = rival_fetched-0 in
      let b = rival_fetched-second a.0 in
      let e : 2 * f + f * k ≡ f + (f + f * k) = omega arith in
      rw e
      (plays-fetch s ok (no_copies s) 0 (read_by 0 ∷ read_by 1 ∷ rounds f k) (Complete ∷ fetch_for 1 ∷ Complete ∷ schedule_rounds f k) (f + f * k)
      ok.some-processor (at-zeros (slots s) (slot0 s))
      (rw a.1
      (plays-read s ok (lone a.0) 0 (read_by 1 ∷ rounds f k) (fetch_for 1 ∷ Complete ∷ schedule_rounds f k) (f + f * k) ok.some-processor (keeps-lone a.0)
      (plays-fetch s ok (lone a.0) 1 (read_by 1 ∷ rounds f k) (Complete ∷ schedule_rounds f k) (f * k) two (at-only-1 s ok two 1)
      (rw b.1 (plays-read s ok (doubled 1 b.0) 1 (rounds f k) (schedule_rounds f k) (f * k) two (keeps-1 b.0) (plays-rounds k b.0 b.2)))))))

-- ---- the requests are valid, and how many they are

module _ (s : Setup) (ok : Fits s) (two : 2 ≤ s.processors) where
  valid-read : (i : ℕ) → i < s.processors → Valid s (read_by i)
  valid-read i h = record { processor = h; operation = block_0 s ok }

  valid-write : Valid s write0
  valid-write = record { processor = ok.some-processor; operation = block_0 s ok }

  valid-writes : (n : ℕ) (qs : List Request) → AllValid s qs → AllValid s (replicate n write0 ++ qs)
  valid-writes zero qs v = v
  valid-writes (suc n) qs v = (valid-write, valid-writes n qs v)

  valid-rounds : (f k : ℕ) → AllValid s (rounds f k)
  valid-rounds f zero = tt
  valid-rounds f (suc k) = valid-writes f (read_by 1 ∷ rounds f k) (valid-read 1 two, valid-rounds f k)

  pub valid-tight : (k : ℕ) → AllValid s (tight s k)
  unfolding tight
  valid-tight k = (valid-read 0 ok.some-processor, (valid-read 1 two, valid-rounds (fetch_price s) k))

length-writes : (n : ℕ) (qs : List Request) → length (replicate n write0 ++ qs) ≡ n + length qs
length-writes zero qs = omega arith
length-writes (suc n) qs = omega (arith, length-writes n qs)

length-rounds : (f k : ℕ) → length (rounds f k) ≡ k * (f + 1)
length-rounds f zero = omega arith
length-rounds f (suc k) = omega (arith, length-writes f (read_by 1 ∷ rounds f k), length-rounds f k, suc-mul k (f + 1))

pub length-tight : (s : Setup) (k : ℕ) → length (tight s k) ≡ k * (fetch_price s + 1) + 2
unfolding tight
length-tight s k = omega (arith, length-rounds (fetch_price s) k)

-- ---- the list and its schedule, for the claim

module _ (s : Setup) (accepted : setup_refusal s ≡ no_refusal) (enough : 2 ≤ s.processors) (k : ℕ) (few : k * (fetch_price s + 1) + 2 ≤ request_limit) where
  ok : Fits s
  ok = setup-fits s accepted

  valid : AllValid s (tight s k)
  valid = valid-tight s ok enough k

  few-tight : length (tight s k) ≤ request_limit
  few-tight = omega (arith, length-tight s k)

  spends-by-kind : (vs : List ℕ) → length vs ≡ length (tight s k)
      → bill_of (run (masked_engine s) (fresh_masked s) fresh_account (tight s k) vs).account ≡ fetch_update_bill (2 * fetch_price s + fetch_price s * k) (fetch_price s * k)
  spends-by-kind vs e =
      rw (leaves-whole s accepted (tight s k) valid few-tight vs e, tight-spent s ok enough k) (bill-path (omega arith) (omega arith) (omega arith))

  pub tight-list : TightList s k
  tight-list = record {
    requests = tight s k;
    schedule = tight_schedule s k;
    many = length-tight s k;
    whole = λ vs e. ap (λ (r : RunAnswer). r.refusal) (answers-whole s accepted (tight s k) valid few-tight vs e);
    count = λ vs e. ap (λ (r : RunAnswer). r.taken) (answers-whole s accepted (tight s k) valid few-tight vs e);
    spends = λ vs e. ap cycles (spends-by-kind vs e) ∙ omega arith;
    spends-by-kind = spends-by-kind;
    legal = (tight-plays s ok enough k).legal;
    pays = ap cycles (tight-plays s ok enough k).costs ∙ omega arith;
    pays-by-kind = (tight-plays s ok enough k).costs;
  }
