-- A local array of n elements of a plain type, lent to a callee as a slice by `&ν mut [T]` and taken back. It says nothing of a crate.
--     array-lends          given Is xs vs and `Room` of n:  the cell with vs  ⊢ ⇛ ∃ δ. own (the `&ν mut [T]` δ at xs, of n elements) ∗ Loan ν δ n
--     array-returns        given that zs has n elements:  [†ν] ∗ Loan ν δ n ∗ finally δ zs  ⊢ ⇛ (⌜Is zs (the elements' values)⌝ ∧ the cell with the elements' values ∗ [†ν])
-- The same array as a field of a struct, which goes by the tuples of its elements:
--     field-value          the machine value is the same
--     field_is             given Is zs (the elements' values):  what the struct owes of the field
-- Assumes `Logic`, and field-value and field_is nothing.
use mathlib.Core.Path.{◌≡◌, refl, sym, ◌∙◌, ap, subst}
use Prim.Native.Nat.{ℕ, suc}
use mathlib.Core.List.{List, [], ◌∷◌, map}
use lib.ListN.{length}
use seplogic.Ra.Ura.{Ura}
use base.Fraction.{full_share}
use mir.Syntax.{Lifetime}
use mir.Val.{Val}
use base.Logic.{ent, sep, ex, guard}
use base.Fml.{Lft, GName, fsep, fdead}
use types.Logic.{Logic, sem}
use types.Kit.{‵, ◌⊛◌, given, later, ◌$◌, ◌∵◌, !, qed, by, move, drop, use1, use3, split, learn, fsplit, fjoin, fpick, fpack, feq_i, frame, await, updating, now as at_once, check, done}
use types.Share.{arr_parts}
use denote.RattleType.{RattleType}
use denote.Laws.{Is, Tells, Makes, shows}
use denote.Memory.{cell_at, part_at, part_of, shares}
use denote.Slice.{slice_val, MutSlice, Room, finally}
use denote.Array.{Array, each, array_val, array_vals, Array-Tells, Array-Makes}
use denote.ArrayMemory.{Single, Array-apart, Array-whole}
use denote.Index.{row, whole_out, whole_in}
use denote.Shadow.{shadow}
use denote.Steps.{only, owned, peeks}
use denote.Struct.Steps.{spelt}
use denote.Struct.Declared.{Declared, row as row_of, field}
use denote.Struct.Laws.{Laws, val, vals as vals-of, tuple_val}
use Rattle.walks.proofs.Opening.{at-list, Cells, Loan, slice-lends, slice-returns}

module _ (R : RattleType) (n b o : ℕ) {M : Type 1} {𝓤 : Ura M} (𝓛 : Logic 𝓤) where
  -- the cell of an array, as its elements
  open 𝓛 use {H, A}

  apart : Single R.mir → Makes 𝓛 R (Is R) → (xs : List R.Denot) (vs : List Val) → Is (Array R n) xs vs → ent 𝓤 (sem 𝓛 (cell_at full_share (Array R n).mir vs b o)) (sem 𝓛 (Cells R b o xs))
  unfolding part_of
  apart one mk xs vs is =
      qed 𝓛 (‵ (cell_at full_share (Array R n).mir vs b o) ∷ []) ∵ owned ! (Array R n) (Is (Array R n)) (Array-Makes 𝓛 R mk n) xs vs is $ move ! (1 ∷ 0 ∷ []) $ fjoin ! $
      fpack ! (List Val) (λ us. fsep (cell_at full_share (Array R n).mir us b o) ((Array R n).own_val xs us)) vs $
      use1 𝓛 (‵ ((arr_parts (shares R) n).part full_share xs b o)) (Array-apart 𝓛 R full_share one n xs b o) $ fsplit ! $ drop ! $ by ! (whole_in 𝓛 R xs b o)

  -- and back
  whole : (vals : R.Denot → List Val) → Tells R (Is R) vals → (zs : List R.Denot) → length zs ≡ n
      → ent 𝓤 (sem 𝓛 (Cells R b o zs)) (guard 𝓤 (Is (Array R n) zs (array_vals vals zs)) (sem 𝓛 (cell_at full_share (Array R n).mir (array_vals vals zs) b o)))
  unfolding part_of
  whole vals tl zs e =
      qed 𝓛 (‵ (Cells R b o zs) ∷ []) ∵ use1 𝓛 (‵ (row R full_share zs b o)) (whole_out 𝓛 R zs b o) $ feq_i ! ℕ (length zs) n e $ fjoin ! $
      use1 𝓛 (‵ (part_at (Array R n) full_share zs b o)) (Array-whole 𝓛 R full_share n zs b o) $
      fpick ! (λ vs. fsplit ! $ spelt ! (Array R n) (Is (Array R n)) (shows 𝓛 (Array R n)) (array_vals vals) (Array-Tells R vals tl n) full_share zs vs b o $ move ! (1 ∷ []) $
      peeks ! (Array R n) (Is (Array R n)) (shows 𝓛 (Array R n)) zs (array_vals vals zs) (λ is. check ! is $ drop ! $ done !))

  pub array-lends : Single R.mir → Makes 𝓛 R (Is R) → (ℓ : Lifetime) (ν : Lft) (xs : List R.Denot) (vs : List Val) → Is (Array R n) xs vs → Room R n
      → ent 𝓤 (sem 𝓛 (cell_at full_share (Array R n).mir vs b o)) (H.⇛ (ex 𝓤 (λ (δ : GName). sep 𝓤 (sem 𝓛 ((MutSlice ℓ ν R).own_val (at-list R b o δ xs) (slice_val (b, o) n ∷ []))) (sem 𝓛 (Loan R b o ν δ n)))))
  array-lends one mk ℓ ν xs vs is room =
      qed 𝓛 (‵ (cell_at full_share (Array R n).mir vs b o) ∷ []) ∵ use1 𝓛 (‵ (Cells R b o xs)) (apart one mk xs vs is) $
      by ! (subst (λ (k : ℕ). ent 𝓤 (sem 𝓛 (Cells R b o xs)) (H.⇛ (ex 𝓤 (λ (δ : GName). sep 𝓤 (sem 𝓛 ((MutSlice ℓ ν R).own_val (at-list R b o δ xs) (slice_val (b, o) k ∷ []))) (sem 𝓛 (Loan R b o ν δ k)))))) is.1.0.1
      (slice-lends R b o 𝓛 ℓ ν xs (subst (Room R) (sym is.1.0.1) room)))

  pub array-returns : (vals : R.Denot → List Val) → Tells R (Is R) vals → (ν : Lft) (δ : GName) (zs : List R.Denot) → length zs ≡ n
      → ent 𝓤 (sep 𝓤 (A.dead ν) (sep 𝓤 (sem 𝓛 (Loan R b o ν δ n)) (sem 𝓛 (finally R δ zs)))) (H.⇛ (guard 𝓤 (Is (Array R n) zs (array_vals vals zs)) (sep 𝓤 (sem 𝓛 (cell_at full_share (Array R n).mir (array_vals vals zs) b o)) (A.dead ν))))
  array-returns vals tl ν δ zs e =
      qed 𝓛 (‵ (fdead ν) ∷ ‵ (Loan R b o ν δ n) ∷ ‵ (finally R δ zs) ∷ []) ∵ updating ! $ use3 𝓛 (later (‵ (Cells R b o zs) ⊛ ‵ (fdead ν))) (slice-returns R b o 𝓛 ν δ n zs) $ await ! tt $ split ! $
      use1 𝓛 (given (Is (Array R n) zs (array_vals vals zs)) (‵ (cell_at full_share (Array R n).mir (array_vals vals zs) b o))) (whole vals tl zs e) $ learn ! (λ is. at_once ! $ check ! is $ frame ! $ done !)

module _ (T : Declared) where
  length-tuples : (zs : List T.D) → length (map T.to zs) ≡ length zs
  length-tuples [] = refl
  length-tuples (z ∷ zs) = ap suc (length-tuples zs)

  each-tuple : (zs : List T.D) (us : List Val) → shadow (each T.D (row_of T).own_val zs us) → shadow (each (field T).row.Denot (field T).row.own_val (map T.to zs) us)
  each-tuple [] [] s = s
  each-tuple [] (u ∷ us) s = absurd s
  each-tuple (z ∷ zs) [] s = absurd s
  each-tuple (z ∷ zs) (u ∷ us) s = (s.0, each-tuple zs us s.1)

  module _ (L : Laws T) where
    tuple-values : (zs : List T.D) → map (val T L) zs ≡ map (tuple_val T L) (map T.to zs)
    tuple-values [] = refl
    tuple-values (z ∷ zs) = λ i. val T L z ∷ tuple-values zs i

    pub field-value : (zs : List T.D) → only (array_vals (vals-of T L) zs) ≡ array_val (map (tuple_val T L) (map T.to zs))
    field-value zs = ap array_val (tuple-values zs)

    pub field_is : (n : ℕ) (zs : List T.D) → Is (Array (row_of T) n) zs (array_vals (vals-of T L) zs) → Is (Array (field T).row n) (map T.to zs) (array_val (map (tuple_val T L) (map T.to zs)) ∷ [])
    field_is n zs p = subst (Is (Array (field T).row n) (map T.to zs)) (ap (λ (u : Val). u ∷ []) (field-value zs)) (p.0, ((p.1.0.0, length-tuples zs ∙ p.1.0.1), each-tuple zs p.0 p.1.1))
