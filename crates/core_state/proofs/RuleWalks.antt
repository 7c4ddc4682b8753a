-- The first rule that applies, found by a walk over options. Layers above cite these lemmas.
use Rattle.std.proofs.Common.{◌≡◌, Bool, true, false, cond, Option, Some, None, refl, sym, ◌∙◌, ap, subst}
use Rattle.std.specs.Prelude.{is_some}
use Rattle.std.specs.Option.{ForSome, option_map, option_and_then, unwrap_or}
use Rattle.std.proofs.lemmas.Bool.{false≢true}
use Rattle.mss_base.specs.Firsts.{where_so, ◌or◌}

pub some_is : {A : Type 0} (x y : A) → Some x ≡ Some y → x ≡ y
some_is x y is = ap (λ (o : Option _). unwrap_or o x) is

pub none_some : {A : Type 0} (x : A) → ◌≡◌ {A = Option A} None (Some x) → ⊥
none_some {A} x is = let e : ◌≡◌ {A = Option A} None (Some x) = is in cc

-- ---- what each rule has that may be found

module _ {R : Type 0} (P : R → Type 0) where
  pub nothing : (o : Option R) → o ≡ None → ForSome o P
  nothing o none r is = absurd (none_some r (sym none ∙ is))

  pub this : (x : R) → P x → ForSome (Some x) P
  this x p r is = subst P (some_is x r is) p

  pub either : (a b : Option R) → ForSome a P → ForSome b P → ForSome (a or b) P
  either None b pa pb = pb
  either (Some x) b pa pb = pa

  pub where_test : (test : Bool) (x : R) → (test ≡ true → P x) → ForSome (where_so test x) P
  where_test true x p = this x (p refl)
  where_test false x p = nothing None refl

  pub if_test : (test : Bool) (a b : Option R) → ForSome a P → ForSome b P → ForSome (cond test a b) P
  if_test true a b pa pb = pa
  if_test false a b pa pb = pb

  pub mapped : {A : Type 0} (f : A → R) (o : Option A) → ((a : A) → P (f a)) → ForSome (option_map f o) P
  mapped f None each = nothing None refl
  mapped f (Some a) each = this (f a) (each a)

  pub chained : {A : Type 0} (f : A → Option R) (o : Option A) → ((a : A) → ForSome (f a) P) → ForSome (option_and_then f o) P
  chained f None each = nothing None refl
  chained f (Some a) each = each a

  -- what a rule is made of is there
  pub mapped_at : {A : Type 0} (f : A → R) (o : Option A) → ((a : A) → o ≡ Some a → P (f a)) → ForSome (option_map f o) P
  mapped_at f None each = nothing None refl
  mapped_at f (Some a) each = this (f a) (each a refl)

  pub chained_at : {A : Type 0} (f : A → Option R) (o : Option A) → ((a : A) → o ≡ Some a → ForSome (f a) P) → ForSome (option_and_then f o) P
  chained_at f None each = nothing None refl
  chained_at f (Some a) each = each a refl

  -- the second of two is looked at where the first isn't there
  pub either_then : (a b : Option R) → ForSome a P → (a ≡ None → ForSome b P) → ForSome (a or b) P
  either_then None b pa pb = pb refl
  either_then (Some x) b pa pb = pa

  pub if_so : (test : Bool) (a b : Option R) → (test ≡ true → ForSome a P) → (test ≡ false → ForSome b P) → ForSome (cond test a b) P
  if_so true a b pa pb = pa refl
  if_so false a b pa pb = pb refl

  -- the rule that is found, or the one that stands for none
  pub found : (o : Option R) (other : R) → ForSome o P → P other → P (unwrap_or o other)
  found None other p q = q
  found (Some x) other p q = p x refl

  -- the first of two is found, or it isn't there and what comes behind it is
  pub first : (a b : Option R) (other : R) → ForSome a P → (a ≡ None → P (unwrap_or b other)) → P (unwrap_or (a or b) other)
  first None b other here behind = behind refl
  first (Some x) b other here behind = here x refl

  -- the last is found, or the rule that stands for none
  pub last : (a : Option R) (other : R) → ForSome a P → (a ≡ None → P other) → P (unwrap_or a other)
  last None other here behind = behind refl
  last (Some x) other here behind = here x refl

-- ---- what a chain begins with

-- what a chain ends with comes of what it began with
pub chained_some : {A B : Type 0} (f : A → Option B) (o : Option A) (y : B) → option_and_then f o ≡ Some y → (x : A) × (o ≡ Some x) × (f x ≡ Some y)
chained_some f None y is = absurd (none_some y is)
chained_some f (Some x) y is = (x, refl, is)

-- a chain that always ends in something isn't there only where nothing begins it
pub never_begun : {A R : Type 0} (f g : A → Option R) (h : A → R) (o : Option A) → option_and_then (λ a. f a or g a or Some (h a)) o ≡ None → o ≡ None
never_begun f g h None is = refl
never_begun {A} {R} f g h (Some a) is = absurd (by (f a) (g a) is)
  where
    by : (p q : Option R) → ◌≡◌ {A = Option R} (p or q or Some (h a)) None → ⊥
    by None None e = cc
    by None (Some x) e = cc
    by (Some x) q e = cc

pub some_of : {A : Type 0} (o : Option A) → is_some o ≡ true → (x : A) × (o ≡ Some x)
some_of None is = absurd (false≢true is)
some_of (Some x) is = (x, refl)

-- ---- where a rule of one kind was found; kind: what a rule of that kind carries

module _ {R A : Type 0} (kind : R → Option A) where
  -- no rule of the kind is found here
  abbrev pub HasNone : Option R → Type 0
  HasNone o = ForSome o (λ r. kind r ≡ None)

  clash : (r : R) (x : A) → kind r ≡ Some x → kind r ≡ None → ⊥
  clash r x is none = none_some x (sym none ∙ is)

  -- the second of two, where it isn't the first; the first, where it isn't the second
  pub behind : (a b : Option R) (r : R) (x : A) → kind r ≡ Some x → ForSome a (λ q. kind q ≡ None) → (a or b) ≡ Some r → (a ≡ None) × (b ≡ Some r)
  behind None b r x is none at = (refl, at)
  behind (Some y) b r x is none at = absurd (clash r x is (none r at))

  pub before : (a b : Option R) (r : R) (x : A) → kind r ≡ Some x → ForSome b (λ q. kind q ≡ None) → (a or b) ≡ Some r → a ≡ Some r
  before None b r x is none at = absurd (clash r x is (none r at))
  before (Some y) b r x is none at = at

  -- a rule that is found and isn't the one that stands for none
  pub found_by : (o : Option R) (other r : R) (x : A) → kind r ≡ Some x → kind other ≡ None → unwrap_or o other ≡ r → o ≡ Some r
  found_by None other r x is none at = absurd (clash r x is (ap kind (sym at) ∙ none))
  found_by (Some y) other r x is none at = ap Some at

-- ---- a test

pub tested : {R : Type 0} (test : Bool) (x r : R) → where_so test x ≡ Some r → (test ≡ true) × (x ≡ r)
tested true x r is = (refl, some_is x r is)
tested false x r is = absurd (none_some r is)

-- the first of two is found, where it is there
pub found_first : {R : Type 0} (a b : Option R) (other r : R) → a ≡ Some r → unwrap_or (a or b) other ≡ r
found_first a b other r is = ap (λ (o : Option _). unwrap_or (o or b) other) is
