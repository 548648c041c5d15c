-- What a walk by hand does with its own locals that it lends to a callee: a local is lent for a lifetime that the walk makes and ends, and stands again as a cell that the walk reads or frees. It says nothing of the crate, and can be copied as it stands.
-- A local of a plain type, as a struct of numbers, by `&ν mut T`:
--     RefLoan              the lender's part
--     ref-lends            given Is x vs:  the cell with vs  ⊢ ⇛ ∃ δ. own (the `&ν mut T` δ at x) ∗ RefLoan ν δ
--     ref-returns          [†ν] ∗ RefLoan ν δ ∗ res δ y  ⊢ ⇛ (⌜Is y (vals y)⌝ ∧ the cell with vals y ∗ [†ν])
-- A local array of n elements of a plain type, as a slice, by `&ν [T]`:
--     array-shares         given `Copied`, Is xs vs and `Room` of n:  the cell with vs  ⊢ ⇛ (own (the `&ν [T]` at xs, of n elements) ∗ Shared ν xs)
--     array-unshares       given that xs has n elements:  [†ν] ∗ Shared ν xs  ⊢ ⇛ (the cell with the elements' values ∗ [†ν])
-- Assumes `Logic`.
use mathlib.Core.Path.{◌≡◌, sym, subst}
use Prim.Native.Nat.{ℕ}
use mathlib.Core.List.{List, [], ◌∷◌}
use lib.ListN.{length}
use seplogic.Ra.Ura.{Ura}
use base.Fraction.{full_share}
use mir.Syntax.{Lifetime}
use mir.Val.{Val, vptr}
use base.Logic.{ent, sep, ex, guard}
use base.Fml.{Lft, GName, Fml, fsep, fdead, flent, fres}
use types.Logic.{Logic, sem}
use types.Kit.{‵, ◌⊛◌, given, later, ◌$◌, ◌∵◌, !, qed, by, move, drop, use1, use2, use3, split, learn, fsplit, fjoin, fpick, fpack, feq_i, frame, await, updating, now as at_once, check, done}
use types.SemTy.{Body}
use types.Share.{arr_parts}
use denote.RattleType.{RattleType}
use denote.Laws.{Is, Tells, Makes, shows}
use denote.Memory.{mem, cell_at, part_at, part_of, shares}
use denote.Ref.{MutRef}
use denote.Slice.{slice_val, ShrSlice, Room}
use denote.Array.{Array, array_vals, Array-Tells, Array-Makes}
use denote.ArrayMemory.{Single, Array-apart, Array-whole}
use denote.Index.{row, whole_out, whole_in}
use denote.Lend.{lends_ref, ref_back}
use denote.Copied.{Copied}
use denote.Steps.{owned, peeks}
use denote.Struct.Steps.{spelt}
use Rattle.walks.proofs.Opening.{at-shared, at_value, Cells, Shared, slice-shares, slice-unshares}

module _ (R : RattleType) (b o : ℕ) where
  -- a value in memory is a cell and what the value owns
  module _ {M : Type 1} {𝓤 : Ura M} (𝓛 : Logic 𝓤) where
    lies_in : Makes 𝓛 R (Is R) → (x : R.Denot) (vs : List Val) → Is R x vs → ent 𝓤 (sem 𝓛 (cell_at full_share R.mir vs b o)) (sem 𝓛 (part_at R full_share x b o))
    unfolding part_of
    lies_in mk x vs is = qed 𝓛 (‵ (cell_at full_share R.mir vs b o) ∷ []) ∵ owned ! R (Is R) mk x vs is $ move ! (1 ∷ 0 ∷ []) $ fjoin ! $ fpack ! (List Val) (λ us. fsep (cell_at full_share R.mir us b o) (R.own_val x us)) vs $ done !

    lies_out : (vals : R.Denot → List Val) → Tells R (Is R) vals → (x : R.Denot) → ent 𝓤 (sem 𝓛 (part_at R full_share x b o)) (guard 𝓤 (Is R x (vals x)) (sem 𝓛 (cell_at full_share R.mir (vals x) b o)))
    unfolding part_of
    lies_out vals tl x = qed 𝓛 (‵ (part_at R full_share x b o) ∷ []) ∵ fpick ! (λ vs. fsplit ! $ spelt ! R (Is R) (shows 𝓛 R) vals tl full_share x vs b o $ move ! (1 ∷ []) $ peeks ! R (Is R) (shows 𝓛 R) x (vals x) (λ is. check ! is $ drop ! $ done !))

  -- ---- one value
  abbrev pub RefLoan : Lft → GName → Fml
  RefLoan ν δ = flent ν (Body (mem R) b o δ)

  module _ {M : Type 1} {𝓤 : Ura M} (𝓛 : Logic 𝓤) where
    open 𝓛 use {H, A}

    pub ref-lends : Makes 𝓛 R (Is R) → (ℓ : Lifetime) (ν : Lft) (x : R.Denot) (vs : List Val) → Is R x vs
        → ent 𝓤 (sem 𝓛 (cell_at full_share R.mir vs b o)) (H.⇛ (ex 𝓤 (λ (δ : GName). sep 𝓤 (sem 𝓛 ((MutRef ℓ ν R).own_val (at_value R b o δ x) (vptr b o ∷ []))) (sem 𝓛 (RefLoan ν δ)))))
    ref-lends mk ℓ ν x vs is = qed 𝓛 (‵ (cell_at full_share R.mir vs b o) ∷ []) ∵ use1 𝓛 (‵ (part_at R full_share x b o)) (lies_in 𝓛 mk x vs is) $ by ! (lends_ref 𝓛 R ℓ ν x b o)

    pub ref-returns : (vals : R.Denot → List Val) → Tells R (Is R) vals → (ν : Lft) (δ : GName) (y : R.Denot)
        → ent 𝓤 (sep 𝓤 (A.dead ν) (sep 𝓤 (sem 𝓛 (RefLoan ν δ)) (A.res δ (R.coded.code y)))) (H.⇛ (guard 𝓤 (Is R y (vals y)) (sep 𝓤 (sem 𝓛 (cell_at full_share R.mir (vals y) b o)) (A.dead ν))))
    ref-returns vals tl ν δ y =
        qed 𝓛 (‵ (fdead ν) ∷ ‵ (RefLoan ν δ) ∷ ‵ (fres δ (R.coded.code y)) ∷ []) ∵ updating ! $ use1 𝓛 (‵ (fdead ν) ⊛ ‵ (fdead ν)) (𝓛.lfts.dead_dup ν) $ split ! $ move ! (0 ∷ 2 ∷ 3 ∷ []) $
        use3 𝓛 (later (‵ (part_at R full_share y b o))) (ref_back 𝓛 R ν δ y b o) $ await ! tt $ use1 𝓛 (given (Is R y (vals y)) (‵ (cell_at full_share R.mir (vals y) b o))) (lies_out 𝓛 vals tl y) $ learn ! (λ is.
        at_once ! $ check ! is $ frame ! $ done !)

module _ (R : RattleType) (n b o : ℕ) where
  module _ {M : Type 1} {𝓤 : Ura M} (𝓛 : Logic 𝓤) where
    open 𝓛 use {H, A}

    apart : Single R.mir → Makes 𝓛 R (Is R) → (xs : List R.Denot) (vs : List Val) → Is (Array R n) xs vs → ent 𝓤 (sem 𝓛 (cell_at full_share (Array R n).mir vs b o)) (sem 𝓛 (Cells R b o xs))
    apart one mk xs vs is =
        qed 𝓛 (‵ (cell_at full_share (Array R n).mir vs b o) ∷ []) ∵ use1 𝓛 (‵ (part_at (Array R n) full_share xs b o)) (lies_in (Array R n) b o 𝓛 (Array-Makes 𝓛 R mk n) xs vs is) $
        use1 𝓛 (‵ ((arr_parts (shares R) n).part full_share xs b o)) (Array-apart 𝓛 R full_share one n xs b o) $ fsplit ! $ drop ! $ by ! (whole_in 𝓛 R xs b o)

    pub array-shares : Single R.mir → Makes 𝓛 R (Is R) → Copied 𝓛 R → (ℓ : Lifetime) (ν : Lft) (xs : List R.Denot) (vs : List Val) → Is (Array R n) xs vs → Room R n
        → ent 𝓤 (sem 𝓛 (cell_at full_share (Array R n).mir vs b o)) (H.⇛ (sep 𝓤 (sem 𝓛 ((ShrSlice ℓ ν R).own_val (at-shared R b o xs) (slice_val (b, o) n ∷ []))) (sem 𝓛 (Shared R b o ν xs))))
    array-shares one mk c ℓ ν xs vs is room =
        qed 𝓛 (‵ (cell_at full_share (Array R n).mir vs b o) ∷ []) ∵ use1 𝓛 (‵ (Cells R b o xs)) (apart one mk xs vs is) $
        by ! (subst (λ (k : ℕ). ent 𝓤 (sem 𝓛 (Cells R b o xs)) (H.⇛ (sep 𝓤 (sem 𝓛 ((ShrSlice ℓ ν R).own_val (at-shared R b o xs) (slice_val (b, o) k ∷ []))) (sem 𝓛 (Shared R b o ν xs))))) is.1.0.1
        (slice-shares R b o 𝓛 c ℓ ν xs (subst (Room R) (sym is.1.0.1) room)))

    pub array-unshares : (vals : R.Denot → List Val) → Tells R (Is R) vals → (ν : Lft) (xs : List R.Denot) → length xs ≡ n
        → ent 𝓤 (sep 𝓤 (A.dead ν) (sem 𝓛 (Shared R b o ν xs))) (H.⇛ (sep 𝓤 (sem 𝓛 (cell_at full_share (Array R n).mir (array_vals vals xs) b o)) (A.dead ν)))
    array-unshares vals tl ν xs e =
        qed 𝓛 (‵ (fdead ν) ∷ ‵ (Shared R b o ν xs) ∷ []) ∵ updating ! $ use2 𝓛 (later (‵ (Cells R b o xs) ⊛ ‵ (fdead ν))) (slice-unshares R b o 𝓛 ν xs) $ await ! tt $ split ! $
        use1 𝓛 (‵ (row R full_share xs b o)) (whole_out 𝓛 R xs b o) $ feq_i ! ℕ (length xs) n e $ fjoin ! $
        use1 𝓛 (‵ (part_at (Array R n) full_share xs b o)) (Array-whole 𝓛 R full_share n xs b o) $
        use1 𝓛 (given (Is (Array R n) xs (array_vals vals xs)) (‵ (cell_at full_share (Array R n).mir (array_vals vals xs) b o))) (lies_out (Array R n) b o 𝓛 (array_vals vals) (Array-Tells R vals tl n) xs) $ learn ! (λ is.
        at_once ! $ frame ! $ done !)
