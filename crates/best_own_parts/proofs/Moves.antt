-- Laws of entries played one after another.
use Prim.Native.Nat.{ℕ, suc, ◌+◌, ◌*◌, ◌/◌, ◌%◌, ◌≤◌, ◌<◌}
use mathlib.Core.Path.{◌≡◌, refl, sym, ap, ◌∙◌}
use mathlib.Core.Bool.{Bool, true, not, ◌&&◌}
use mathlib.Core.List.{List, [], ◌∷◌, ◌++◌}
use native.Mathlib.Omega.{arith}
use lib.ListN.{length, set, length-set, length-append}
use lib.Seq.{sets}
use lib.Dec.{ltb, eqb}
use borrow.Author.Tests.{eq-eqb, lt-ltb}
use Rattle.protocol_types.specs.Lists.{at}
use Rattle.protocol_types.specs.Board.{Fits}
use Rattle.protocol_types.specs.declared.Setup.{Setup}
use Rattle.protocol_types.proofs.Laws.{choice}
use Rattle.best_search.specs.Search.{Graph, walk, total, forward}
use Rattle.best_positions.specs.Position.{has, digit, served_of, moved_state, dropped_state, written_back_state, fetched_state, move_price, completed_state, completed, completion_price, moving_processor, moved_block, is_drop, entry_number, next_at, price_at, board}
use Rattle.best_positions.proofs.Coding.{served-with, digit_lt}
use Rattle.best_own_parts.specs.Codes.{move_code, drop_code, complete_code}
use Rattle.best_own_parts.specs.Playing.{Ready, Played, Moved}
use Rattle.best_own_parts.specs.declared.Playing.{Playing}

-- ---- paths in two parts

module _ (g : Graph) where
  pub walk-append : (u : ℕ) (ks ls : List ℕ) → walk g u (ks ++ ls) ≡ walk g (walk g u ks) ls
  walk-append u [] ls = refl
  walk-append u (k ∷ ks) ls = walk-append (g.next u k) ks ls

  pub total-append : (u : ℕ) (ks ls : List ℕ) → total g u (ks ++ ls) ≡ total g u ks + total g (walk g u ks) ls
  total-append u [] ls = omega arith
  total-append u (k ∷ ks) ls = omega (arith, total-append (g.next u k) ks ls)

  pub forward-append : (φ : ℕ → ℕ → ℕ) (u : ℕ) (ks ls : List ℕ) → forward g φ u (ks ++ ls) ≡ forward g φ u ks ++ forward g φ (walk g u ks) ls
  forward-append φ u [] ls = refl
  forward-append φ u (k ∷ ks) ls = ap (λ z. φ u k ∷ z) (forward-append φ (g.next u k) ks ls)

  pub length-forward : (φ : ℕ → ℕ → ℕ) (u : ℕ) (ks : List ℕ) → length (forward g φ u ks) ≡ length ks
  length-forward φ u [] = refl
  length-forward φ u (k ∷ ks) = ap suc (length-forward φ (g.next u k) ks)

pub sets-append : (l : List ℕ) (n : ℕ) (xs ys : List ℕ) → sets l n (xs ++ ys) ≡ sets (sets l n xs) (n + length xs) ys
sets-append l n [] ys = ap (λ z. sets l z ys) (omega arith)
sets-append l n (x ∷ xs) ys = sets-append (set l n x) (suc n) xs ys ∙ ap (λ z. sets (sets (set l n x) (suc n) xs) z ys) (omega arith)

-- ---- one entry

-- an entry below 16 serves no request
moved-lt : (i d : ℕ) (c : Bool) → i < 2 → d < 6 → moved_state i d c < 6
unfolding moved_state dropped_state written_back_state fetched_state
moved-lt i d c hi hd =
    choice (λ z. z < 6) c (λ e. choice (λ z. z < 6) (eqb d 3) (λ f. omega arith) (λ f. omega arith))
    (λ e. choice (λ z. z < 6) (has i d) (λ f. choice (λ z. z < 6) (eqb d (4 + i)) (λ x. omega arith) (λ x. omega arith))
    (λ f. choice (λ z. z < 6) (eqb d 0) (λ x. omega arith) (λ x. omega arith)))

move-layer : (asks : List ℕ) (u k : ℕ) → k < 16 → next_at asks u k / 1296 ≡ u / 1296
unfolding next_at served_of
move-layer asks u k h =
    rw (lt-ltb k 16 h)
    (served-with u (moved_block k) (moved_state (moving_processor k) (digit u (moved_block k)) (is_drop k)) (moved-lt (moving_processor k) (digit u (moved_block k)) (is_drop k) (omega arith) (digit_lt u (moved_block k))))

-- a completion serves one
completed-lt : (a d : ℕ) → d < 6 → completed_state a d < 6
unfolding completed_state
completed-lt a d h = choice (λ z. z < 6) (eqb (a / 2 % 2) 1 && not (eqb d 3)) (λ e. omega arith) (λ e. omega arith)

completion-layer : (asks : List ℕ) (u : ℕ) → next_at asks u 16 / 1296 ≡ u / 1296 + 1
unfolding next_at completed served_of
completion-layer asks u =
    let a : ℕ = at asks (u / 1296) in
    choice (λ z. z / 1296 ≡ u / 1296 + 1) (ltb a 16 && true)
    (λ e. omega (arith, served-with u (a / 4) (completed_state a (digit u (a / 4))) (completed-lt a (digit u (a / 4)) (digit_lt u (a / 4)))))
    (λ e. omega arith)

-- prices
move-cheap : (s : Setup) → Fits s → (asks : List ℕ) (u k : ℕ) → k < 16 → price_at s asks u k ≤ 32
unfolding price_at move_price
move-cheap s ok asks u k h =
    rw (lt-ltb k 16 h)
    (choice (λ z. z ≤ 32) (is_drop k) (λ e. omega arith)
    (λ e. choice (λ z. z ≤ 32) (has (moving_processor k) (digit u (moved_block k))) (λ f. omega (arith, ok.write-back-le-fetch, ok.few-fetch)) (λ f. ok.few-fetch)))

drop-free : (s : Setup) (asks : List ℕ) (u i b : ℕ) → i < 2 → b < 4 → price_at s asks u (drop_code i b) ≡ 0
unfolding price_at move_price
drop-free s asks u i b hi hb = rw (lt-ltb (8 * i + 2 * b + 1) 16 (omega arith), eq-eqb ((8 * i + 2 * b + 1) % 2) 1 (omega arith))

completion-cheap : (s : Setup) (asks : List ℕ) (u : ℕ) → price_at s asks u 16 ≤ 32
unfolding price_at completion_price
completion-cheap s asks u =
    let a : ℕ = at asks (served_of u) in
    choice (λ z. z ≤ 32) (ltb a 16 && eqb (a / 2 % 2) 1 && eqb (digit u (a / 4)) 3) (λ e. omega arith) (λ e. omega arith)

module _ (s : Setup) (ok : Fits s) (asks : List ℕ) (a z : Playing) (before after : List ℕ) where
  played-moved : (k price served : ℕ) → price_at s asks a.position k ≤ price → next_at asks a.position k / 1296 ≡ a.position / 1296 + served
      → Played s asks k a z before after → Moved s asks (k ∷ []) 1 price served a z before after
  unfolding board
  played-moved k price served cheap layer p =
      record {
        position = p.position;
        count = p.count;
        cost = omega (arith, p.cost);
        numbers = p.numbers;
        sized = ap length p.numbers ∙ length-set before a.length (entry_number a.position k);
        short = omega (arith, p.count);
        cheap = omega (arith, p.cost, cheap);
        layer = ap (λ x. x / 1296) p.position ∙ layer;
      }

  pub move-played : (i b : ℕ) → i < 2 → b < 4 → Played s asks (move_code i b) a z before after → Moved s asks (move_code i b ∷ []) 1 32 0 a z before after
  move-played i b hi hb =
      played-moved (move_code i b) 32 0 (move-cheap s ok asks a.position (move_code i b) (omega arith)) (move-layer asks a.position (move_code i b) (omega arith) ∙ omega arith)

  pub drop-played : (i b : ℕ) → i < 2 → b < 4 → Played s asks (drop_code i b) a z before after → Moved s asks (drop_code i b ∷ []) 1 0 0 a z before after
  drop-played i b hi hb =
      played-moved (drop_code i b) 0 0 (omega (arith, drop-free s asks a.position i b hi hb)) (move-layer asks a.position (drop_code i b) (omega arith) ∙ omega arith)

  pub completion-played : Played s asks complete_code a z before after → Moved s asks (complete_code ∷ []) 1 32 1 a z before after
  completion-played = played-moved complete_code 32 1 (completion-cheap s asks a.position) (completion-layer asks a.position)

-- ---- several

pub moved_none : (s : Setup) (asks : List ℕ) (few price : ℕ) (a : Playing) (before : List ℕ) → Moved s asks [] few price 0 a a before before
moved_none s asks few price a before =
    record { position = refl; count = omega arith; cost = omega arith; numbers = refl; sized = refl; short = omega arith; cheap = omega arith; layer = omega arith }

module _ {s : Setup} {asks : List ℕ} where
  pub moved-less : {ks : List ℕ} {few price served : ℕ} {a z : Playing} {before after : List ℕ} (few' price' : ℕ) → few ≤ few' → price ≤ price'
      → Moved s asks ks few price served a z before after → Moved s asks ks few' price' served a z before after
  moved-less few' price' hf hp m =
      record {
        position = m.position;
        count = m.count;
        cost = m.cost;
        numbers = m.numbers;
        sized = m.sized;
        short = omega (arith, m.short);
        cheap = omega (arith, m.cheap);
        layer = m.layer;
      }

  pub moved_on : {ks ls : List ℕ} {f p v f' p' v' : ℕ} {a y z : Playing} {before between after : List ℕ}
      → Moved s asks ks f p v a y before between → Moved s asks ls f' p' v' y z between after → Moved s asks (ks ++ ls) (f + f') (p + p') (v + v') a z before after
  moved_on {ks} {ls} {f} {p} {v} {f'} {p'} {v'} {a} {y} {z} {before} {between} {after} m n =
      record {
        position = n.position ∙ ap (λ x. walk (board s asks) x ls) m.position ∙ sym (walk-append (board s asks) a.position ks ls);
        count = omega (arith, m.count, n.count, length-append ks ls);
        cost = omega (arith, m.cost, n.cost, total-append (board s asks) a.position ks ls, ap (λ x. total (board s asks) x ls) m.position);
        numbers =
            n.numbers ∙ ap (λ x. sets x y.length (forward (board s asks) entry_number y.position ls)) m.numbers
            ∙ ap (λ x. sets (sets before a.length (forward (board s asks) entry_number a.position ks)) x (forward (board s asks) entry_number y.position ls)) count-is
            ∙ ap (λ x. sets (sets before a.length (forward (board s asks) entry_number a.position ks)) (a.length + length (forward (board s asks) entry_number a.position ks)) (forward (board s asks) entry_number x ls)) m.position
            ∙ sym (sets-append before a.length (forward (board s asks) entry_number a.position ks) (forward (board s asks) entry_number (walk (board s asks) a.position ks) ls))
            ∙ ap (sets before a.length) (sym (forward-append (board s asks) entry_number a.position ks ls));
        sized = n.sized ∙ m.sized;
        short = omega (arith, m.short, n.short);
        cheap = omega (arith, m.cheap, n.cheap);
        layer = omega (arith, m.layer, n.layer);
      }
    where
      count-is : y.length ≡ a.length + length (forward (board s asks) entry_number a.position ks)
      count-is = omega (arith, m.count, length-forward (board s asks) entry_number a.position ks)

  -- what was left to play from a is left from z
  pub ready_on : {ks : List ℕ} {few f p v : ℕ} {a z : Playing} {before after : List ℕ} → Ready s a before few → Moved s asks ks f p v a z before after
      → (few' : ℕ) → f + few' ≤ few → p ≤ 32 * f → z.position < 32400 → Ready s z after few'
  ready_on r m few' hf hp hz =
      record {
        fits = r.fits;
        small = r.small;
        position = hz;
        room = omega (arith, r.room, m.short);
        cost = omega (arith, r.cost, m.cheap);
        sized = m.sized ∙ r.sized;
      }

pub ready-less : {s : Setup} {a : Playing} {numbers : List ℕ} {few : ℕ} → Ready s a numbers few → (few' : ℕ) → few' ≤ few → Ready s a numbers few'
ready-less r few' h =
    record { fits = r.fits; small = r.small; position = r.position; room = omega (arith, r.room); cost = omega (arith, r.cost); sized = r.sized }
