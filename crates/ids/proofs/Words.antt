-- An id list, two words an id, read from a place on: the lowest id that a test picks.
-- Assumes nothing.
use mathlib.Core.Bool.{Bool, true, false, cond, not, ◌||◌, true≢false}
use mathlib.Core.List.{List, [], ◌∷◌}
use Rattle.std.specs.Prelude.{Option, None, Some}
use mathlib.Core.Path.{◌≡◌, refl, sym, ap, ◌∙◌}
use Prim.Native.Nat.{ℕ, suc, ◌+◌, ◌-◌, ◌<◌}
use native.Mathlib.Omega.{arith}
use lib.ListN.{length, get_or, drop, length-drop}
use lib.Seq.{drop-cons}
use Rattle.lists.specs.Lists.{filter}
use Rattle.ids.specs.declared.LockId.{LockId}
use Rattle.ids.specs.Order.{before_id}
use Rattle.ids.specs.Words.{ids_of}

abbrev pub id_at : List ℕ → ℕ → LockId
id_at ws j = record { hi = get_or ws j 0; lo = get_or ws (j + 1) 0 }

pub one_id : (ws : List ℕ) (j : ℕ) → j + 1 < length ws → ids_of (drop j ws) ≡ id_at ws j ∷ ids_of (drop (j + 2) ws)
one_id ws j h =
    let a : j < length ws = omega arith in
    let b : suc j < length ws = omega arith in
    let e : j + 1 ≡ suc j = omega arith in
    let f : j + 2 ≡ suc (suc j) = omega arith in
    rw (drop-cons ws j 0 a, drop-cons ws (suc j) 0 b, e, f)

pub no_id_lem : (ws : List ℕ) (j : ℕ) → length ws - j < 2 → ids_of (drop j ws) ≡ []
no_id_lem ws j h = short (drop j ws) (omega (arith, length-drop j ws))
  where
    short : (l : List ℕ) → length l < 2 → ids_of l ≡ []
    short [] k = refl
    short (x ∷ []) k = refl
    short (x ∷ (y ∷ l)) k = absurd (omega arith)

-- ---- the lowest id that the test p picks: a loop that keeps the best so far
abbrev pub lower : Option LockId → LockId → Option LockId
lower None i = Some i
lower (Some b) i = cond (before_id i b) (Some i) (Some b)

abbrev pub lowest_of : Option LockId → List LockId → Option LockId
lowest_of b [] = b
lowest_of b (i ∷ is) = lowest_of (lower b i) is

abbrev pub best_of : Bool → LockId → Option LockId
best_of true b = Some b
best_of false b = None

module _ (p : LockId → Bool) (ws : List ℕ) where
  -- the search goes on from word j
  abbrev pub on_from : Bool → LockId → ℕ → Option LockId
  on_from f b j = lowest_of (best_of f b) (filter p (ids_of (drop j ws)))

  abbrev pub lowest_where : Option LockId
  lowest_where = lowest_of None (filter p (ids_of ws))

  module _ (f : Bool) (b : LockId) (j : ℕ) where
    module _ (h : j + 1 < length ws) where
      pub skip_id : p (id_at ws j) ≡ false → on_from f b j ≡ on_from f b (j + 2)
      skip_id e = rw (one_id ws j h, e)

      module _ (e : p (id_at ws j) ≡ true) (t : Bool) (q : t ≡ before_id (id_at ws j) b) where
        lower_yes : (f : Bool) → (not f || t) ≡ true → lower (best_of f b) (id_at ws j) ≡ best_of true (id_at ws j)
        lower_yes true g = let k : before_id (id_at ws j) b ≡ true = sym q ∙ g in rw k
        lower_yes false g = refl

        lower_no : (f : Bool) → (not f || t) ≡ false → lower (best_of f b) (id_at ws j) ≡ best_of f b
        lower_no true g = let k : before_id (id_at ws j) b ≡ false = sym q ∙ g in rw k
        lower_no false g = absurd (true≢false g)

        pub take_id : (not f || t) ≡ true → on_from f b j ≡ on_from true (id_at ws j) (j + 2)
        take_id g = rw (one_id ws j h, e) (ap (λ (o : Option LockId). lowest_of o (filter p (ids_of (drop (j + 2) ws)))) (lower_yes f g))

        pub keep_id : (not f || t) ≡ false → on_from f b j ≡ on_from f b (j + 2)
        keep_id g = rw (one_id ws j h, e) (ap (λ (o : Option LockId). lowest_of o (filter p (ids_of (drop (j + 2) ws)))) (lower_no f g))

    pub end_ids : length ws - j < 2 → on_from f b j ≡ lowest_where → best_of f b ≡ lowest_where
    end_ids h e = sym (ap (λ (is : List LockId). lowest_of (best_of f b) (filter p is)) (no_id_lem ws j h)) ∙ e
