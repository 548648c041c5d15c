-- From true masks a run answers what the run without masks answers, and leaves the same tables, account and values, with true masks again (document 02, P7).
use Prim.Native.Nat.{ℕ, zero, suc, ◌<◌}
use mathlib.Core.Path.{◌≡◌, refl, sym, ap, ap₂, ◌∙◌}
use mathlib.Core.Bool.{Bool, true, false, ◌&&◌, cond, and-true as and-always}
use mathlib.Core.List.{List, [], ◌∷◌}
use native.Mathlib.Omega.{arith}
use lib.ListN.{length, length-replicate}
use lib.Dec.{eqb}
use borrow.Author.Tests.{eqb-true, eq-eqb}
use Rattle.protocol_types.specs.Lists.{at, zeros, listed, tail}
use Rattle.protocol_types.specs.Bits.{mask_of}
use Rattle.protocol_types.specs.Refusals.{no_refusal}
use Rattle.protocol.specs.Tables.{Tables, sized, fresh, holds, holds_at}
use Rattle.protocol.specs.Soundness.{sound}
use Rattle.protocol.specs.Masks.{holders, holders_at, masks_of, Masked, masked, with_masks, fresh_masked, sized_masked, true_masks, sound_masked}
use Rattle.protocol.specs.Requests.{served, value, bill}
use Rattle.protocol.specs.Accounts.{entered}
use Rattle.protocol.specs.Engines.{Outcome, onward, ended_by, run_from, run, Run, State, outcome_of, left_by, outcomes, runs}
use Rattle.protocol.specs.Runs.{run_refusal, masked_refusal, engine, masked_engine, opening, masked_opening, masked_outcome, masked_outcomes, masked_state}
use Rattle.protocol_types.specs.Conditions.{request_refusal}
use Rattle.protocol_types.specs.declared.Setup.{Setup}
use Rattle.protocol_types.specs.declared.Block.{Block}
use Rattle.protocol_types.specs.declared.Request.{Request}
use Rattle.protocol_types.specs.declared.Account.{Account}
use Rattle.protocol.proofs.Runs.{RunChecked, checks-passed}
use Rattle.protocol_types.proofs.Laws.{at-zeros, both_true, all_true, true-all}

-- ---- lists by their elements

listed-length : (n : ℕ) (f : ℕ → ℕ) → length (listed n f) ≡ n
listed-length zero f = refl
listed-length (suc n) f = ap suc (listed-length n (λ k. f (suc k)))

listed_at : (n : ℕ) (f : ℕ → ℕ) (k : ℕ) → k < n → at (listed n f) k ≡ f k
listed_at zero f k h = absurd (omega arith)
listed_at (suc n) f zero h = refl
listed_at (suc n) f (suc k) h = listed_at n (λ k. f (suc k)) k (omega arith)

pub is-listed : (n : ℕ) (f : ℕ → ℕ) (l : List ℕ) → length l ≡ n → ((k : ℕ) → k < n → at l k ≡ f k) → l ≡ listed n f
is-listed zero f [] e h = refl
is-listed zero f (x ∷ l) e h = absurd (omega (arith, e))
is-listed (suc n) f [] e h = absurd (omega (arith, e))
is-listed (suc n) f (x ∷ l) e h =
    ap₂ (λ y z. y ∷ z) (h 0 (omega arith)) (is-listed n (λ k. f (suc k)) l (omega (arith, e)) (λ k u. h (suc k) (omega arith)))

-- ---- true masks

module _ (s : Setup) (t : Tables) where
  pub masks-length : length (masks_of s t) ≡ s.blocks
  unfolding masks_of
  masks-length = listed-length s.blocks (holders_at s t)

  pub masks-at : (b : ℕ) → b < s.blocks → at (masks_of s t) b ≡ holders_at s t b
  unfolding masks_of
  masks-at b h = listed_at s.blocks (holders_at s t) b h

  -- masks of the right length, each the true one, are the masks of the tables
  pub masks-are : (h : List ℕ) → length h ≡ s.blocks → ((b : ℕ) → b < s.blocks → at h b ≡ holders_at s t b) → h ≡ masks_of s t
  unfolding masks_of
  masks-are h e f = is-listed s.blocks (holders_at s t) h e f

  masks-true : true_masks s (with_masks s t) ≡ true
  unfolding true_masks
  masks-true = true-all s.blocks _ (λ b h. eq-eqb _ _ (masks-at b h))

-- a block's mask, read where the masks are true
pub mask-read : (s : Setup) (t : Tables) {h : List ℕ} (b : Block) → h ≡ masks_of s t → b.0 < s.blocks → at h b.0 ≡ holders s t b
mask-read s t b e hb = rw e (masks-at s t b.0 hb)

-- true masks are a byte for each block
pub length-masks : (s : Setup) (t : Tables) {h : List ℕ} → h ≡ masks_of s t → length h ≡ s.blocks
length-masks s t e = rw e (masks-length s t)

-- the test of 20, with that of 2
pub true-masks : (s : Setup) (x : Masked) → length x.masks ≡ s.blocks → true_masks s x ≡ true → x.masks ≡ masks_of s x.tables
unfolding true_masks
true-masks s x e p =
    masks-are s x.tables x.masks e (λ b h. eqb-true _ _ (all_true s.blocks (λ b. eqb (at x.masks b) (holders_at s x.tables b)) p b h))

-- "Starting fills all tables with 0": nobody holds a block, and every mask is 0
mask-none : (n : ℕ) (P : ℕ → Bool) → ((i : ℕ) → P i ≡ false) → mask_of n P ≡ 0
mask-none zero P e = refl
mask-none (suc n) P e = rw (e 0, mask-none n (λ i. P (suc i)) (λ i. e (suc i)))

pub fresh-masked : (s : Setup) → fresh_masked s ≡ with_masks s (fresh s)
unfolding fresh_masked fresh holders holds holds_at
fresh-masked s =
    ap (masked (fresh s))
    (masks-are s (fresh s) (zeros s.blocks) (length-replicate s.blocks 0)
    (λ b h. at-zeros s.blocks b ∙ sym (mask-none s.processors _ (λ i. rw at-zeros))))

-- ---- a run with masks

-- tables with true masks are let through exactly if the tables are
pub masked-refusal : (s : Setup) (t : Tables) (a : Account) (n : ℕ) (vs : List ℕ) → masked_refusal s (with_masks s t) a n vs ≡ run_refusal s t a n vs
unfolding masked_refusal run_refusal sized_masked sound_masked
masked-refusal s t a n vs = simp (eq-eqb _ _ (masks-length s t), masks-true s t, and-always)

-- what is known where they are let through
pub record MaskedChecked (s : Setup) (x : Masked) (a : Account) (n : ℕ) (vs : List ℕ) : Type 0 where
  pub tables : RunChecked s x.tables a n vs
  pub masks : x.masks ≡ masks_of s x.tables

pub masked-checked : (s : Setup) (x : Masked) (a : Account) (n : ℕ) (vs : List ℕ) → masked_refusal s x a n vs ≡ no_refusal → MaskedChecked s x a n vs
unfolding masked_refusal sized_masked sound_masked
masked-checked s x a n vs e =
    let c = checks-passed s (sized_masked s x && eqb (length vs) n) (sound_masked s x) a e in
    let l = both_true (sized_masked s x) (eqb (length vs) n) c.lengths in
    let k = both_true (sized s x.tables) (eqb (length x.masks) s.blocks) l.0 in
    let d = both_true (sound s x.tables) (true_masks s x) c.soundness in
    record {
      tables = record { setup = c.setup; sizes = k.0; values = eqb-true _ _ l.1; tables = d.0; account = c.account };
      masks = true-masks s x (eqb-true _ _ k.1) d.1;
    }

module _ (s : Setup) where
  masked-run-from : (t : Tables) (a : Account) (qs : List Request) (vs : List ℕ)
      → run_from (masked_engine s) (with_masks s t) a qs vs ≡ masked_outcome s (run_from (engine s) t a qs vs)
  masked-run-from t a [] vs = refl
  masked-run-from t a (q ∷ qs) vs =
      go (eqb (request_refusal s a.requests q) no_refusal) (masked-run-from (served s t q) (entered a 1 (bill s t q)) qs (tail vs))
    where
      n : ℕ
      n = request_refusal s a.requests q

      go : (c : Bool) {o : Outcome Masked} {o' : Outcome Tables} → o ≡ masked_outcome s o'
          → cond c (onward (value s t q) o) (ended_by n (with_masks s t) a vs) ≡ masked_outcome s (cond c (onward (value s t q) o') (ended_by n t a vs))
      go true e = ap (onward (value s t q)) e
      go false e = refl

  -- "From true masks, every answer, the account and every old table must be proved the same as without masks, and the masks left are true again."
  pub masked-run : (t : Tables) (a : Account) (qs : List Request) (vs : List ℕ)
      → run (masked_engine s) (with_masks s t) a qs vs ≡ masked_outcome s (run (engine s) t a qs vs)
  unfolding run
  masked-run t a qs vs = rw (masked-refusal s t a (length qs) vs) (go (eqb (run_refusal s t a (length qs) vs) no_refusal))
    where
      n : ℕ
      n = run_refusal s t a (length qs) vs

      go : (c : Bool)
          → cond c (run_from (masked_engine s) (with_masks s t) a qs vs) (ended_by n (with_masks s t) a vs)
          ≡ masked_outcome s (cond c (run_from (engine s) t a qs vs) (ended_by n t a vs))
      go true = masked-run-from t a qs vs
      go false = refl

  pub masked-runs : (w : State Tables) (rs : List (Run Request)) → runs (masked_engine s) (masked_state s w) rs ≡ masked_state s (runs (engine s) w rs)
  masked-runs w [] = refl
  masked-runs w (r ∷ rs) =
      ap (λ (o : Outcome Masked). runs (masked_engine s) (left_by o) rs) (masked-run w.tables w.account r.requests r.values)
      ∙ masked-runs (left_by (outcome_of (engine s) w r)) rs

  pub masked-outcomes : (w : State Tables) (rs : List (Run Request)) → outcomes (masked_engine s) (masked_state s w) rs ≡ masked_outcomes s (outcomes (engine s) w rs)
  masked-outcomes w [] = refl
  masked-outcomes w (r ∷ rs) =
      ap (λ (o : Outcome Masked). o ∷ outcomes (masked_engine s) (left_by o) rs) (masked-run w.tables w.account r.requests r.values)
      ∙ ap (λ l. masked_outcome s (outcome_of (engine s) w r) ∷ l) (masked-outcomes (left_by (outcome_of (engine s) w r)) rs)

  -- from fresh tables and masks
  pub fresh-run : (a : Account) (qs : List Request) (vs : List ℕ) → run (masked_engine s) (fresh_masked s) a qs vs ≡ masked_outcome s (run (engine s) (fresh s) a qs vs)
  fresh-run a qs vs = rw (fresh-masked s) (masked-run (fresh s) a qs vs)

  pub fresh-runs : (a : Account) (rs : List (Run Request)) → runs (masked_engine s) (masked_opening s a) rs ≡ masked_state s (runs (engine s) (opening s a) rs)
  fresh-runs a rs = rw (fresh-masked s) (masked-runs (opening s a) rs)

  pub fresh-outcomes : (a : Account) (rs : List (Run Request))
      → outcomes (masked_engine s) (masked_opening s a) rs ≡ masked_outcomes s (outcomes (engine s) (opening s a) rs)
  fresh-outcomes a rs = rw (fresh-masked s) (masked-outcomes (opening s a) rs)
