-- An entry goes by the ids of the locks that cover its ECU, in the list's order. So it stays the same
--     insert_same   where a lock comes that doesn't cover the ECU
--     map_same      where locks change and keep their ids and coverages: adoption, renewal
--     cut_same      where locks go that don't cover it: a tree, or several roots' trees
-- Assumes nothing.
use Rattle.std.proofs.Common.{◌≡◌, ℕ, Bool, true, false, cond, ltb, List, [], ◌∷◌, map, length, sym, refl, ap, ◌∙◌, ap₂}
use Rattle.std.specs.Prelude.{Some}
use mathlib.Core.List.Memᴰ
use lib.ListN.{length-map}
use Rattle.lists.specs.Tests.{◌or◌, non, Yes, No}
use Rattle.lists.specs.Lists.{any, filter, find, insert_by, Mem}
use Rattle.lists.proofs.Tests.{against, →no, yes_non, cond_false, cond_both}
use Rattle.lists.proofs.Lists.{any→, →any, →filter}
use Rattle.ids.specs.declared.LockId.{LockId}
use Rattle.ids.specs.Order.{no_id}
use Rattle.coverage.specs.declared.LockCoverage.{LockCoverage}
use Rattle.coverage.specs.Coverage.{whole_vehicle, covers}
use Rattle.state.specs.declared.ActiveLock.{ActiveLock}
use Rattle.state.specs.Locks.{akey, has_id, normal_coverage, normal}
use Rattle.lookups.specs.Reads.{narrow}
use Rattle.operations.specs.Trees.{Parts, child_of, take_parts, tree_parts, root_parts, cut_all, start_parts, is_listed, roots_parts}
use Rattle.operations.specs.Vehicle.{nest, adopt}
use Rattle.operations.specs.Renew.{extended, extend_at}
use Rattle.records.specs.Wire.{id_bytes}
use Rattle.board.specs.Board.{on, id_of, count_on, lowest_on, entry_of}

-- ---- an entry by the ids
unfoldable pub ids_on : ℕ → List ActiveLock → List LockId
ids_on e l = map (λ a. a.lock.id) (filter (on e) l)

abbrev first_of : List LockId → LockId
first_of [] = no_id
first_of (i ∷ is) = i

abbrev row_of : List LockId → List ℕ
row_of is = length is ∷ id_bytes (first_of is)

first_found : (e : ℕ) (l : List ActiveLock) → id_of (find (on e) l) ≡ first_of (ids_on e l)
unfolding ids_on
first_found e [] = refl
first_found e (x ∷ xs) =
    elim (on e x) as (λ b. id_of (cond b (Some x) (find (on e) xs)) ≡ first_of (map (λ a. a.lock.id) (cond b (x ∷ filter (on e) xs) (filter (on e) xs)))) [ true ↦ refl | false ↦ first_found e xs ]

entry_row : (l : List ActiveLock) (e : ℕ) → entry_of l e ≡ row_of (ids_on e l)
unfolding entry_of count_on lowest_on ids_on
entry_row l e = ap₂ {C = List ℕ} (λ n i. n ∷ id_bytes i) (sym (length-map (filter (on e) l) (λ a. a.lock.id))) (first_found e l)

pub same_entry : (l l' : List ActiveLock) (e : ℕ) → ids_on e l ≡ ids_on e l' → entry_of l e ≡ entry_of l' e
same_entry l l' e q = entry_row l e ∙ ap row_of q ∙ sym (entry_row l' e)

-- ---- a lock comes
filter_insert : {A : Type 0} (k : A → ℕ) (p : A → Bool) (x : A) (l : List A) → No (p x) → filter p (insert_by k x l) ≡ filter p l
filter_insert k p x [] n = cond_false (p x) (x ∷ []) [] n
filter_insert k p x (y ∷ ys) n =
    cond_both (λ l. filter p l ≡ filter p (y ∷ ys)) (x ∷ (y ∷ ys)) (y ∷ insert_by k x ys) (ltb (k x) (k y))
    (λ t. cond_false (p x) (x ∷ filter p (y ∷ ys)) (filter p (y ∷ ys)) n)
    (λ t. rw (filter_insert k p x ys n))

pub insert_same : (e : ℕ) (x : ActiveLock) (l : List ActiveLock) → No (on e x) → ids_on e (insert_by akey x l) ≡ ids_on e l
unfolding ids_on
insert_same e x l n = ap (map (λ a. a.lock.id)) (filter_insert akey (on e) x l n)

-- the set of a whole vehicle, which is taken as zero, covers nothing that the vehicle doesn't
normal_covers : (c : LockCoverage) (e : ℕ) → covers (normal_coverage c) e ≡ covers c e
unfolding covers ◌or◌
normal_covers c e = go c.whole refl
  where
    go : (b : Bool) → c.whole ≡ b → covers (cond b whole_vehicle c) e ≡ covers c e
    go true q = rw q
    go false q = refl

pub normal_on : (e : ℕ) (x : ActiveLock) → on e (normal x) ≡ on e x
unfolding on normal
normal_on e x = normal_covers x.lock.coverage e

-- ---- locks change
abbrev Like : ActiveLock → ActiveLock → Type 0
Like a b = (b.lock.id ≡ a.lock.id) × (b.lock.coverage ≡ a.lock.coverage)

pub adopt_like : (p : ActiveLock → Bool) (x a : ActiveLock) → Like a (adopt p x a)
unfolding adopt nest
adopt_like p x a = cond_both (Like a) _ a (p a) (λ t. (refl, refl)) (λ t. (refl, refl))

pub extend_like : (i : LockId) (t : ℕ) (has : Bool) (d : ℕ) (a : ActiveLock) → Like a (extend_at i t has d a)
unfolding extend_at extended
extend_like i t has d a = cond_both (Like a) _ a (has_id i a) (λ u. (refl, refl)) (λ u. (refl, refl))

like_on : (e : ℕ) (a b : ActiveLock) → Like a b → on e b ≡ on e a
unfolding on
like_on e a b like = ap (λ (c : LockCoverage). covers c e) like.1

pub map_same : (e : ℕ) (g : ActiveLock → ActiveLock) → ((a : ActiveLock) → Like a (g a)) → (l : List ActiveLock) → ids_on e (map g l) ≡ ids_on e l
unfolding ids_on
map_same e g like [] = refl
map_same e g like (x ∷ xs) = rw (like_on e x (g x) (like x)) (go (on e x) (map_same e g like xs))
  where
    go : (b : Bool) → ids_on e (map g xs) ≡ ids_on e xs → map (λ a. a.lock.id) (cond b (g x ∷ filter (on e) (map g xs)) (filter (on e) (map g xs))) ≡ map (λ a. a.lock.id) (cond b (x ∷ filter (on e) xs) (filter (on e) xs))
    go true r = ap₂ {C = List LockId} (λ i is. i ∷ is) (like x).0 r
    go false r = r

-- ---- locks go
filter_within : {A : Type 0} (p q : A → Bool) (l : List A) → ((a : A) → Mem a l → Yes (p a) → Yes (q a)) → filter p (filter q l) ≡ filter p l
filter_within p q [] f = refl
filter_within {A} p q (x ∷ xs) f = go (q x) refl (p x) refl (filter_within p q xs (λ a m. f a (Memᴰ.tail m)))
  where
    go : (b : Bool) → q x ≡ b → (c : Bool) → p x ≡ c → filter p (filter q xs) ≡ filter p xs → filter p (cond b (x ∷ filter q xs) (filter q xs)) ≡ cond c (x ∷ filter p xs) (filter p xs)
    go true d true t r = rw t (ap (λ (l : List A). x ∷ l) r)
    go true d false t r = rw t r
    go false d true t r = absurd (against d (f x (Memᴰ.head refl) t))
    go false d false t r = r

module _ (e : ℕ) (l : List ActiveLock) where
  -- of what stays the same cover e, where nothing that went does
  record Off (p : Parts) : Type 0 where
    same : No (any (on e) p.gone) → filter (on e) p.kept ≡ filter (on e) l

  start_off : Off (start_parts l)
  start_off = record { same = λ n. refl }

  take_off : (q : ActiveLock → Bool) (p : Parts) → Off p → Off (take_parts q p)
  take_off q p f =
      record {
        same = λ n.
            filter_within (on e) (λ a. non (q a)) p.kept (λ a u t.
            yes_non (q a) (→no (q a) (λ v. against n (→any (on e) (Memᴰ.append_right p.gone (→filter q p.kept u v)) t))))
            ∙ f.same (→no (any (on e) p.gone) (λ t. let w = any→ (on e) p.gone t in against n (→any (on e) (Memᴰ.append_left (filter q p.kept) w.1) w.2)));
      }

  tree_off : (r : ActiveLock) (p : Parts) → Off p → Off (tree_parts r p)
  unfolding tree_parts
  tree_off r p f = take_off (has_id r.lock.id) _ (take_off (narrow r) _ (take_off (child_of r) p f))

  cut_off : (rs : List ActiveLock) (p : Parts) → Off p → Off (cut_all rs p)
  unfolding root_parts
  cut_off [] p f = f
  cut_off (r ∷ rs) p f = cut_off rs (root_parts r p) (cond_both Off (tree_parts r p) p (any (has_id r.lock.id) p.kept) (λ t. tree_off r p f) (λ t. f))

  pub tree_same : (r : ActiveLock) → No (any (on e) (tree_parts r (start_parts l)).gone) → ids_on e (tree_parts r (start_parts l)).kept ≡ ids_on e l
  unfolding ids_on
  tree_same r n = ap (map (λ a. a.lock.id)) ((tree_off r (start_parts l) start_off).same n)

  pub cut_same : (ws : List ℕ) → No (any (on e) (roots_parts ws l).gone) → ids_on e (roots_parts ws l).kept ≡ ids_on e l
  unfolding roots_parts ids_on
  cut_same ws n = ap (map (λ a. a.lock.id)) ((cut_off (filter (is_listed ws) l) (start_parts l) start_off).same n)
