-- Laws of lists: members, what a test keeps and finds, the pigeonhole law, ascending lists and insertion.
-- Assumes nothing.
use mathlib.Core.Path.{◌≡◌, refl, sym, ap, ◌∙◌, subst}
use mathlib.Core.Bool.{Bool, true, false, cond, false≢true}
use mathlib.Core.List.Memᴰ
use mathlib.Core.List.{List, [], ◌∷◌, map, Memᴰ}
use mathlib.Core.Option
use Rattle.std.specs.Prelude.{Option, None, Some}
use Rattle.std.specs.Option.{option_map}
use Rattle.lists.proofs.Options.{None_ne_Some, Some_ne_None, Some_injective}
use mathlib.Core.Logic.{◌⊎◌, inl, inr}
use Prim.Native.Nat.{ℕ, suc, ◌≤◌, ◌<◌}
use native.Mathlib.Omega.{arith}
use lib.ListN.{length}
use lib.Dec.{eqb, ltb, leb}
use borrow.Author.Tests.{eq-eqb, eqb-true, leb-true, ltb-true, ltb-false, le-leb}
use Rattle.lists.specs.Tests.{non, Yes, No}
use Rattle.lists.specs.Lists.{all, any, filter, find, Mem, Fresh, from, ascending, insert_by}
use Rattle.lists.proofs.Tests.{against, →no, non_yes, yes_non, and_l, and_r, and_i, or_e, or_l, or_r, by, cond_true, cond_false, cond_both}

module _ {A : Type 0} where
  pub all→ : (p : A → Bool) {a : A} {l : List A} → Yes (all p l) → Mem a l → Yes (p a)
  all→ p {a = a} {l = []} t x5 = elim x5 [ ]
  all→ p {l = x ∷ xs} t (Memᴰ.head e) = subst (λ (y : A). Yes (p y)) (sym e) (and_l (p x) (all p xs) t)
  all→ p {l = x ∷ xs} t (Memᴰ.tail m) = all→ p (and_r (p x) (all p xs) t) m

  pub →all : (p : A → Bool) (l : List A) → ((a : A) → Mem a l → Yes (p a)) → Yes (all p l)
  →all p [] f = refl
  →all p (x ∷ xs) f = and_i (p x) (all p xs) (f x (Memᴰ.head refl)) (→all p xs (λ a m. f a (Memᴰ.tail m)))

  pub any→ : (p : A → Bool) (l : List A) → Yes (any p l) → (a : A) × Mem a l × Yes (p a)
  any→ p [] t = absurd (false≢true t)
  any→ p (x ∷ xs) t = go (or_e (p x) (any p xs) t) (λ u. any→ p xs u)
    where
      go : Yes (p x) ⊎ Yes (any p xs) → (Yes (any p xs) → (a : A) × Mem a xs × Yes (p a)) → (a : A) × Mem a (x ∷ xs) × Yes (p a)
      go (inl u) r = (x, Memᴰ.head refl, u)
      go (inr u) r = let w = r u in (w.0, Memᴰ.tail w.1, w.2)

  pub →any : (p : A → Bool) {a : A} {l : List A} → Mem a l → Yes (p a) → Yes (any p l)
  →any p {a = a} {l = []} x5 t = elim x5 [ ]
  →any p {l = x ∷ xs} (Memᴰ.head e) t = or_l (p x) (any p xs) (subst (λ (y : A). Yes (p y)) e t)
  →any p {l = x ∷ xs} (Memᴰ.tail m) t = or_r (p x) (any p xs) (→any p m t)

  pub filter→ : (p : A → Bool) (l : List A) {a : A} → Mem a (filter p l) → Mem a l × Yes (p a)
  filter→ p [] {a = a} m = elim m [ ]
  filter→ p (x ∷ xs) {a} m = go (p x) refl m (λ n. filter→ p xs n)
    where
      go : (b : Bool) → p x ≡ b → Mem a (cond b (x ∷ filter p xs) (filter p xs)) → (Mem a (filter p xs) → Mem a xs × Yes (p a)) → Mem a (x ∷ xs) × Yes (p a)
      go true e (Memᴰ.head q) r = (Memᴰ.head q, (ap p q ∙ e))
      go true e (Memᴰ.tail n) r = let w = r n in (Memᴰ.tail w.0, w.1)
      go false e n r = let w = r n in (Memᴰ.tail w.0, w.1)

  pub →filter : (p : A → Bool) (l : List A) {a : A} → Mem a l → Yes (p a) → Mem a (filter p l)
  →filter p [] {a = a} x'' t = elim x'' [ ]
  →filter p (x ∷ xs) {a} (Memᴰ.head e) t = rw (cond_true (p x) _ _ (subst (λ (y : A). Yes (p y)) e t)) (Memᴰ.head e)
  →filter p (x ∷ xs) {a} (Memᴰ.tail m) t = cond_both (λ l. Mem a l) (x ∷ filter p xs) (filter p xs) (p x) (λ u. Memᴰ.tail (→filter p xs m t)) (λ u. →filter p xs m t)

  pub find→ : (p : A → Bool) (l : List A) {a : A} → find p l ≡ Some a → Mem a l × Yes (p a)
  find→ p [] {a} e = absurd (None_ne_Some a e)
  find→ p (x ∷ xs) {a} e = go (p x) refl e (λ n. find→ p xs n)
    where
      go : (b : Bool) → p x ≡ b → cond b (Some x) (find p xs) ≡ Some a → (find p xs ≡ Some a → Mem a xs × Yes (p a)) → Mem a (x ∷ xs) × Yes (p a)
      go true q f r = let z = Some_injective x a f in (Memᴰ.head (sym z), (ap p (sym z) ∙ q))
      go false q f r = let w = r f in (Memᴰ.tail w.0, w.1)

  pub find_none→ : (p : A → Bool) (l : List A) {a : A} → find p l ≡ None → Mem a l → Yes (p a) → ⊥
  find_none→ p [] {a = a} e x3 t = elim x3 [ ]
  find_none→ p (x ∷ xs) {a} e (Memᴰ.head q) t = Some_ne_None x (sym (cond_true (p x) (Some x) (find p xs) (subst (λ (y : A). Yes (p y)) q t)) ∙ e)
  find_none→ p (x ∷ xs) {a} e (Memᴰ.tail m) t =
      by (p x) ⊥ (λ u. Some_ne_None x (sym (cond_true (p x) (Some x) (find p xs) u) ∙ e)) (λ u. find_none→ p xs (sym (cond_false (p x) (Some x) (find p xs) u) ∙ e) m t)

  -- the outcome of a search, with its equation
  pub find_cases : (p : A → Bool) (l : List A) → ((a : A) × (find p l ≡ Some a)) ⊎ (find p l ≡ None)
  find_cases p l = go (find p l) refl
    where
      go : (o : Option A) → find p l ≡ o → ((a : A) × (find p l ≡ Some a)) ⊎ (find p l ≡ None)
      go None e = inr e
      go (Some a) e = inl (a, e)

  pub find_hit : (p : A → Bool) (l : List A) {a : A} → Mem a l → Yes (p a) → (b : A) × (find p l ≡ Some b)
  find_hit p l m t = elim (find_cases p l) [ inl w ↦ w | inr e ↦ absurd (find_none→ p l e m t) ]

  pub find_miss : (p : A → Bool) (l : List A) → ((a : A) → Mem a l → Yes (p a) → ⊥) → find p l ≡ None
  find_miss p l f = elim (find_cases p l) [ inl w ↦ let r = find→ p l w.1 in absurd (f w.0 r.0 r.1) | inr e ↦ e ]

  pub find_filter : (p q : A → Bool) (l : List A) → ((a : A) → Yes (p a) → Yes (q a)) → find p (filter q l) ≡ find p l
  find_filter p q [] f = refl
  find_filter p q (x ∷ xs) f = go (q x) refl (p x) refl (find_filter p q xs f)
    where
      go : (b : Bool) → q x ≡ b → (c : Bool) → p x ≡ c → find p (filter q xs) ≡ find p xs → find p (cond b (x ∷ filter q xs) (filter q xs)) ≡ cond c (Some x) (find p xs)
      go true d true e r = simp e
      go true d false e r = simp (e, r)
      go false d true e r = absurd (against d (f x e))
      go false d false e r = r

  pub find_map : (p : A → Bool) (g : A → A) (l : List A) → ((a : A) → p (g a) ≡ p a) → find p (map g l) ≡ option_map g (find p l)
  find_map p g [] f = refl
  find_map p g (x ∷ xs) f = go (p x) refl (find_map p g xs f)
    where
      go : (b : Bool) → p x ≡ b → find p (map g xs) ≡ option_map g (find p xs) → find p (map g (x ∷ xs)) ≡ option_map g (cond b (Some x) (find p xs))
      go true e r = simp (f x, e)
      go false e r = simp (f x, e, r)

  pub find_agree : (p q : A → Bool) (l : List A) → ((a : A) → p a ≡ q a) → find p l ≡ find q l
  find_agree p q [] f = refl
  find_agree p q (x ∷ xs) f = simp (f x, find_agree p q xs f)

  pub filter_le : (p : A → Bool) (l : List A) → length (filter p l) ≤ length l
  filter_le p [] = omega arith
  filter_le p (x ∷ xs) = let h = filter_le p xs in cond_both (λ l. length l ≤ suc (length xs)) (x ∷ filter p xs) (filter p xs) (p x) (λ t. omega arith) (λ t. omega arith)

  pub filter_lt : (p : A → Bool) {a : A} {l : List A} → Mem a l → No ((p a)) → length (filter p l) < length l
  filter_lt p {a = a} {l = []} x5 t = elim x5 [ ]
  filter_lt p {a} {l = x ∷ xs} (Memᴰ.head e) t = rw (cond_false (p x) (x ∷ filter p xs) (filter p xs) (subst (λ (y : A). No ((p y))) e t)) (omega (arith, filter_le p xs))
  filter_lt p {a} {l = x ∷ xs} (Memᴰ.tail m) t = let h = filter_lt p m t in cond_both (λ l. length l < suc (length xs)) (x ∷ filter p xs) (filter p xs) (p x) (λ t. omega arith) (λ t. omega arith)

pub pigeon : (ks ls : List ℕ) → Fresh ks → ((k : ℕ) → Mem k ks → Mem k ls) → length ks ≤ length ls
pigeon [] ls f g = omega arith
pigeon (k ∷ ks) ls f g = omega (arith, filter_lt other (g k (Memᴰ.head refl)) gone, pigeon ks (filter other ls) f.1 kept)
  where
    other : ℕ → Bool
    other j = non (eqb j k)

    gone : No (other k)
    gone = →no (other k) (λ u. against (non_yes _ u) (eq-eqb k k refl))

    kept : (j : ℕ) → Mem j ks → Mem j (filter other ls)
    kept j m = →filter other ls (g j (Memᴰ.tail m)) (yes_non _ (→no (eqb j k) (λ u. f.0 (Memᴰ.cast (sym (eqb-true j k u)) m))))

-- ---- ascending lists
module _ {A : Type 0} (k : A → ℕ) where
  head_le : (b : ℕ) (x : A) (xs : List A) → Yes (from k b (x ∷ xs)) → b ≤ k x
  head_le b x xs t = leb-true b (k x) (and_l (leb b (k x)) (from k (suc (k x)) xs) t)

  pub rest : (b : ℕ) (x : A) (xs : List A) → Yes (from k b (x ∷ xs)) → Yes (from k (suc (k x)) xs)
  rest b x xs t = and_r (leb b (k x)) (from k (suc (k x)) xs) t

  cons : (b : ℕ) (x : A) (xs : List A) → b ≤ k x → Yes (from k (suc (k x)) xs) → Yes (from k b (x ∷ xs))
  cons b x xs h t = and_i (leb b (k x)) (from k (suc (k x)) xs) (le-leb b (k x) h) t

  pub from→ : {a : A} (b : ℕ) {l : List A} → Yes (from k b l) → Mem a l → b ≤ k a
  from→ {a = a} b {l = []} t x5 = elim x5 [ ]
  from→ b {l = x ∷ xs} t (Memᴰ.head e) = rw e (head_le b x xs t)
  from→ b {l = x ∷ xs} t (Memᴰ.tail m) = omega (arith, head_le b x xs t, from→ (suc (k x)) (rest b x xs t) m)

  pub from_weaken : (b c : ℕ) (l : List A) → c ≤ b → Yes (from k b l) → Yes (from k c l)
  from_weaken b c [] h t = refl
  from_weaken b c (x ∷ xs) h t = cons c x xs (omega (arith, head_le b x xs t)) (rest b x xs t)

  -- two entries of one key are one
  pub from_unique : {x : A} (b : ℕ) {l : List A} {y : A} → Yes (from k b l) → Mem x l → Mem y l → k x ≡ k y → x ≡ y
  from_unique b t (Memᴰ.head e) (Memᴰ.head f) q = e ∙ sym f
  from_unique b {l = z ∷ zs} t (Memᴰ.head e) (Memᴰ.tail m) q = absurd (omega (arith, from→ (suc (k z)) (rest b z zs t) m, ap k e))
  from_unique b {l = z ∷ zs} t (Memᴰ.tail m) (Memᴰ.head f) q = absurd (omega (arith, from→ (suc (k z)) (rest b z zs t) m, ap k f))
  from_unique b {l = z ∷ zs} t (Memᴰ.tail m) (Memᴰ.tail n) q = from_unique (suc (k z)) (rest b z zs t) m n q

  pub from_filter : (p : A → Bool) (b : ℕ) (l : List A) → Yes (from k b l) → Yes (from k b (filter p l))
  from_filter p b [] t = refl
  from_filter p b (x ∷ xs) t =
      let h = head_le b x xs t in
      let r = from_filter p (suc (k x)) xs (rest b x xs t) in
      cond_both (λ l. Yes (from k b l)) (x ∷ filter p xs) (filter p xs) (p x) (λ u. cons b x (filter p xs) h r) (λ u. from_weaken (suc (k x)) b (filter p xs) (omega arith) r)

  pub from_map : (f : A → A) → ((a : A) → k (f a) ≡ k a) → (b : ℕ) (l : List A) → from k b (map f l) ≡ from k b l
  from_map f h b [] = refl
  from_map f h b (x ∷ xs) = simp (h x, from_map f h (suc (k x)) xs)

  pub from_insert : (x : A) (b : ℕ) (l : List A) → b ≤ k x → ((a : A) → Mem a l → k a ≡ k x → ⊥) → Yes (from k b l) → Yes (from k b (insert_by k x l))
  from_insert x b [] h n t = cons b x [] h refl
  from_insert x b (y ∷ ys) h n t = cond_both (λ l. Yes (from k b l)) (x ∷ (y ∷ ys)) (y ∷ insert_by k x ys) (ltb (k x) (k y))
      (λ u. cons b x (y ∷ ys) h (cons (suc (k x)) y ys (ltb-true (k x) (k y) u) (rest b y ys t)))
      (λ u. cons b y (insert_by k x ys) (head_le b y ys t) (from_insert x (suc (k y)) ys (omega (arith, ltb-false (k x) (k y) u, n y (Memᴰ.head refl))) (λ a m. n a (Memᴰ.tail m)) (rest b y ys t)))

  -- what stands in the list after an insertion
  pub insert→ : (x : A) (l : List A) {a : A} → Mem a (insert_by k x l) → (a ≡ x) ⊎ Mem a l
  insert→ x [] {a = a} (Memᴰ.tail x6) = elim x6 [ ]
  insert→ x [] (Memᴰ.head e) = inl e
  insert→ x (y ∷ ys) {a} m = go (ltb (k x) (k y)) m (λ n. insert→ x ys n)
    where
      go : (c : Bool) → Mem a (cond c (x ∷ (y ∷ ys)) (y ∷ insert_by k x ys)) → (Mem a (insert_by k x ys) → (a ≡ x) ⊎ Mem a ys) → (a ≡ x) ⊎ Mem a (y ∷ ys)
      go true (Memᴰ.head e) r = inl e
      go true (Memᴰ.tail n) r = inr n
      go false (Memᴰ.head e) r = inr (Memᴰ.head e)
      go false (Memᴰ.tail n) r = elim (r n) [ inl e ↦ inl e | inr u ↦ inr (Memᴰ.tail u) ]

  pub insert_new : (x : A) (l : List A) → Mem x (insert_by k x l)
  insert_new x [] = Memᴰ.head refl
  insert_new x (y ∷ ys) = cond_both (λ l. Mem x l) (x ∷ (y ∷ ys)) (y ∷ insert_by k x ys) (ltb (k x) (k y)) (λ u. Memᴰ.head refl) (λ u. Memᴰ.tail (insert_new x ys))

  pub insert_old : (x : A) (l : List A) {a : A} → Mem a l → Mem a (insert_by k x l)
  insert_old x [] {a = a} x'' = elim x'' [ ]
  insert_old x (y ∷ ys) {a} (Memᴰ.head e) = cond_both (λ l. Mem a l) (x ∷ (y ∷ ys)) (y ∷ insert_by k x ys) (ltb (k x) (k y)) (λ u. Memᴰ.tail (Memᴰ.head e)) (λ u. Memᴰ.head e)
  insert_old x (y ∷ ys) {a} (Memᴰ.tail m) = cond_both (λ l. Mem a l) (x ∷ (y ∷ ys)) (y ∷ insert_by k x ys) (ltb (k x) (k y)) (λ u. Memᴰ.tail (Memᴰ.tail m)) (λ u. Memᴰ.tail (insert_old x ys m))

  -- in an ascending list the entry of a key is the one that is found
  pub find_key : (l : List A) → Yes (ascending k l) → (j : ℕ) {a : A} → Mem a l → k a ≡ j → find (λ x. eqb (k x) j) l ≡ Some a
  find_key l t j {a} m e =
      let t' : Yes (eqb (k a) j) = rw e (eq-eqb j j refl) in
      let w = find_hit (λ x. eqb (k x) j) l m t' in
      let f = find→ (λ x. eqb (k x) j) l w.1 in
      w.1 ∙ ap {B = Option A} Some (from_unique 0 t f.0 m (eqb-true (k w.0) j f.1 ∙ sym e))

  pub length_insert : (x : A) (l : List A) → length (insert_by k x l) ≡ suc (length l)
  length_insert x [] = refl
  length_insert x (y ∷ ys) = cond_both (λ l. length l ≡ suc (suc (length ys))) (x ∷ (y ∷ ys)) (y ∷ insert_by k x ys) (ltb (k x) (k y)) (λ u. refl) (λ u. ap suc (length_insert x ys))

  pub find_insert : (p : A → Bool) (x : A) (l : List A) → No (p x) → find p (insert_by k x l) ≡ find p l
  find_insert p x [] n = rw (cond_false (p x) (Some x) None n)
  find_insert p x (y ∷ ys) n = cond_both (λ l. find p l ≡ find p (y ∷ ys)) (x ∷ (y ∷ ys)) (y ∷ insert_by k x ys) (ltb (k x) (k y))
      (λ u. cond_false (p x) (Some x) (find p (y ∷ ys)) n) (λ u. rw (find_insert p x ys n))
