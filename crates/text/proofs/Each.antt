-- What holds of each element of a list that is joined from others. Assumes nothing.
use Rattle.std.proofs.Common.{List, [], ◌∷◌, ◌++◌, length, refl, subst}
use Rattle.std.specs.List.{All}
use Rattle.std.proofs.lemmas.List.{take_at, drop_at}
use Rattle.std.proofs.lemmas.List.Elements.{All-nil, All-cons, All-head, All-take, All-drop}

module _ {X : Type 0} (P : X → Type 0) where
  pub each_one : (x : X) → P x → All P (x ∷ [])
  each_one x h = All-cons P x [] h (All-nil P)

  pub each_front : (xs ys : List X) → All P (xs ++ ys) → All P xs
  each_front xs ys all = subst (All P) (take_at xs ys (length xs) refl) (All-take P (length xs) (xs ++ ys) all)

  pub each_back : (xs ys : List X) → All P (xs ++ ys) → All P ys
  each_back xs ys all = subst (All P) (drop_at xs ys (length xs) refl) (All-drop P (length xs) (xs ++ ys) all)

  pub each_at : (xs : List X) (y : X) (ys : List X) → All P (xs ++ (y ∷ ys)) → P y
  each_at xs y ys all = All-head P y ys (each_back xs (y ∷ ys) all)
