-- Vectors in memory: what a store changes.
use mathlib.Core.Path.{◌≡◌, sym, ap, ◌∙◌, fun_ext}
use mathlib.Core.Logic.{⊎_elim}
use mathlib.Core.List.{List}
use Prim.Native.Nat.{ℕ, ◌<◌}
use lib.ListN.{length, set}
use lib.Seq.{get_or-set_same, get_or-set_other}
use Rattle.sdf.proofs.Numbers.{eq_or_ne}
use Rattle.sdf.proofs.Settle.{put, put_same, put_other}
use Rattle.sets.specs.Vector.{vector}

-- A store at v within the list puts n there and changes nothing else.
pub vector_set : (xs : List ℕ) (v n : ℕ) → v < length xs → vector (set xs v n) ≡ put (vector xs) v n
vector_set xs v n l =
    fun_ext (λ w. ⊎_elim
    (λ e. ap (vector (set xs v n)) e ∙ get_or-set_same xs v n 0 l ∙ sym (ap (put (vector xs) v n) e ∙ put_same (vector xs) v n))
    (λ d. get_or-set_other xs v w n 0 d ∙ sym (put_other (vector xs) v n w d))
    (eq_or_ne w v))
