-- The entries that numbers tell, stored one after another. Assumes nothing.
use Prim.Native.Nat.{ℕ, zero, suc, ◌<◌, ◌≤◌}
use mathlib.Core.Path.{◌≡◌, refl, sym, ap, ◌∙◌, subst}
use mathlib.Core.List.{List, [], ◌∷◌, ◌++◌}
use native.Mathlib.Omega.{arith}
use lib.ListN.{length, take}
use Rattle.protocol_types.specs.Lists.{at}
use Rattle.protocol_types.specs.declared.Entry.{Entry}
use Rattle.best_positions.specs.Position.{entry_from, entries_from}
use Rattle.stored_lists.specs.Lists.{filled}
use Rattle.stored_lists.proofs.Filled.{filled-more}

entries-more : (ns : List ℕ) (k : ℕ) → k < length ns → entries_from (take (suc k) ns) ≡ entries_from (take k ns) ++ entry_from (at ns k) ∷ []
entries-more [] k h = absurd (omega arith)
entries-more (n ∷ ns) zero h = refl
entries-more (n ∷ ns) (suc k) h = ap (λ (l : List Entry). entry_from n ∷ l) (entries-more ns k (omega arith))

length-front : (ns : List ℕ) (k : ℕ) → k ≤ length ns → length (entries_from (take k ns)) ≡ k
length-front ns zero h = refl
length-front [] (suc k) h = absurd (omega arith)
length-front (n ∷ ns) (suc k) h = ap suc (length-front ns k (omega arith))

pub front-all : (ns : List ℕ) → take (length ns) ns ≡ ns
front-all [] = refl
front-all (n ∷ ns) = ap (λ (l : List ℕ). n ∷ l) (front-all ns)

module _ {A : Type 0} (stored : List A → ℕ → Entry → List A) (lent : List A) (ns : List ℕ) where
  -- the list with the entries of the first k numbers
  abbrev pub front : ℕ → List A
  front k = filled stored lent (entries_from (take k ns))

  pub front-next : (k j : ℕ) → j ≡ suc k → k < length ns → stored (front k) k (entry_from (at ns k)) ≡ front j
  front-next k j is-j h =
      subst (λ i. stored (front k) k (entry_from (at ns k)) ≡ front i) (sym is-j)
      (ap (λ i. stored (front k) i (entry_from (at ns k))) (sym (length-front ns k (omega arith)))
      ∙ sym (ap (filled stored lent) (entries-more ns k h) ∙ filled-more stored lent (entries_from (take k ns)) (entry_from (at ns k))))
