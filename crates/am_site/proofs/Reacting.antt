-- One thing after the other, of one tenant.
use Rattle.std.proofs.Common.{◌≡◌, ℕ, Bool, true, false, ◌&&◌, List, [], ◌∷◌, ◌++◌, map, refl, sym, ap, ◌∙◌}
use Rattle.std.proofs.Common.{append_assoc, append-nil}
use Rattle.std.proofs.Math.Bool.{and_assoc}
use Rattle.am_cluster.specs.Local.{Local}
use Rattle.am_cluster.specs.Reactions.{Reaction, each, stays, ◌>>◌}
use Rattle.am_context.proofs.Changes.{one_changes, other, own}
use Rattle.am_item.specs.declared.fault.Fault.{Fault}
use Rattle.am_item.specs.declared.fault.Fault.TheVariants.{OutOfMemory, CountsExhausted, PatternNotBuilt, StoreRefused}
use Rattle.am_site.specs.Locals.{local_of}
use Rattle.am_site.specs.Reacting.{Does, Keeps, Reacts, StopsReacting, said_in}
use Rattle.am_site.specs.declared.said.Said.{Said as Spoken}
use Rattle.am_site.specs.declared.site.Site.{Site}

-- ---- reactions

pub and_true : (b : Bool) → (b && true) ≡ b
and_true true = refl
and_true false = refl

pub and_false : (b : Bool) → (b && false) ≡ false
and_false true = refl
and_false false = refl

-- what comes of parts
abbrev made : Reaction → Reaction → Reaction
made first next = record { local = next.local; said = first.said ++ next.said; fits = first.fits && next.fits }

each_append : {A : Type 0} (f : A → Local → Reaction) (xs ys : List A) (l : Local) → each f (xs ++ ys) l ≡ (each f xs >> each f ys) l
each_append f [] ys l = refl
each_append f (x ∷ xs) ys l =
    let first = f x l in
    let mid = each f xs first.local in
    let last = each f ys mid.local in
    ap (made first) (each_append f xs ys first.local)
    ∙ ap (λ said. let r : Reaction = record { local = last.local; said = said; fits = first.fits && (mid.fits && last.fits) } in r) (sym (append_assoc first.said mid.said last.said))
    ∙ ap (λ b. let r : Reaction = record { local = last.local; said = (first.said ++ mid.said) ++ last.said; fits = b } in r) (sym (and_assoc first.fits mid.fits last.fits))

-- one more at the end
each_more : {A : Type 0} (f : A → Local → Reaction) (xs : List A) (x : A) (l : Local) → each f (xs ++ x ∷ []) l ≡ (each f xs >> f x) l
each_more f xs x l =
    let mid = each f xs l in
    let last = f x mid.local in
    each_append f xs (x ∷ []) l
    ∙ ap (λ said. let r : Reaction = record { local = last.local; said = mid.said ++ said; fits = mid.fits && (last.fits && true) } in r) (append-nil last.said)
    ∙ ap (λ b. let r : Reaction = record { local = last.local; said = mid.said ++ last.said; fits = mid.fits && b } in r) (and_true last.fits)

-- ---- what is left

pub keeps_all : (site : Site) → Keeps site site
keeps_all site = record { incarnation = refl; positions = λ t. refl; asked = λ t. refl; timed = λ timed. timed }

pub keeps_both : (a b c : Site) → Keeps a b → Keeps b c → Keeps a c
keeps_both a b c one two = record {
  incarnation = two.incarnation ∙ one.incarnation;
  positions = λ t. two.positions t ∙ one.positions t;
  asked = λ t. two.asked t ∙ one.asked t;
  timed = λ timed. two.timed (one.timed timed);
}

-- ---- of all tenants

module _ (tenant : List ℕ) where
  -- what is done is told by what it comes to
  pub reacts_as : (f g : Local → Reaction) (a b : Site) (x y : List Spoken) → ((l : Local) → f l ≡ g l) → Reacts tenant f a b x y → Reacts tenant g a b x y
  reacts_as f g a b x y same one = record {
    local = one_changes tenant (λ l. (g l).local) (λ t. local_of t a) (λ t. local_of t b)
        (own tenant _ _ _ (one.local tenant) ∙ ap (λ (r : Reaction). r.local) (same (local_of tenant a)))
        (λ t apart. other t tenant _ _ _ apart (one.local t));
    said = one.said ∙ ap (λ (r : Reaction). map said_in x ++ r.said) (same (local_of tenant a));
    fits = sym (ap (λ (r : Reaction). r.fits) (same (local_of tenant a))) ∙ one.fits;
    keeps = one.keeps;
  }

  pub stops_as : (f g : Local → Reaction) (a : Site) (fault : Fault) → ((l : Local) → f l ≡ g l) → StopsReacting tenant f a fault → StopsReacting tenant g a fault
  stops_as f g a OutOfMemory same stops = tt
  stops_as f g a CountsExhausted same stops = sym (ap (λ (r : Reaction). r.fits) (same (local_of tenant a))) ∙ stops
  stops_as f g a PatternNotBuilt same stops = stops
  stops_as f g a StoreRefused same stops = stops

  -- .. by what it comes to where it happens
  module _ (f g : Local → Reaction) (a : Site) (is : f (local_of tenant a) ≡ g (local_of tenant a)) where
    pub reacts_from : (c : Site) (x y : List Spoken) → Reacts tenant f a c x y → Reacts tenant g a c x y
    reacts_from c x y one = record {
      local = one_changes tenant (λ l. (g l).local) (λ t. local_of t a) (λ t. local_of t c)
          (own tenant _ _ _ (one.local tenant) ∙ ap (λ (r : Reaction). r.local) is)
          (λ t apart. other t tenant _ _ _ apart (one.local t));
      said = one.said ∙ ap (λ (r : Reaction). map said_in x ++ r.said) is;
      fits = sym (ap (λ (r : Reaction). r.fits) is) ∙ one.fits;
      keeps = one.keeps;
    }

    pub does_from : (c : Site) → Does tenant f a c → Does tenant g a c
    does_from c one = record {
      local = one_changes tenant (λ l. (g l).local) (λ t. local_of t a) (λ t. local_of t c)
          (own tenant _ _ _ (one.local tenant) ∙ ap (λ (r : Reaction). r.local) is)
          (λ t apart. other t tenant _ _ _ apart (one.local t));
      said = sym (ap (λ (r : Reaction). r.said) is) ∙ one.said;
      fits = sym (ap (λ (r : Reaction). r.fits) is) ∙ one.fits;
      keeps = one.keeps;
    }

    pub stops_from : (fault : Fault) → StopsReacting tenant f a fault → StopsReacting tenant g a fault
    stops_from OutOfMemory stops = tt
    stops_from CountsExhausted stops = sym (ap (λ (r : Reaction). r.fits) is) ∙ stops
    stops_from PatternNotBuilt stops = stops
    stops_from StoreRefused stops = stops

  -- .. since all have what they had
  module _ (f : Local → Reaction) (a b : Site) (same : (t : List ℕ) → local_of t b ≡ local_of t a) where
    pub reacts_since : (c : Site) (x y : List Spoken) → Keeps a b → Reacts tenant f b c x y → Reacts tenant f a c x y
    reacts_since c x y kept one = record {
      local = one_changes tenant (λ l. (f l).local) (λ t. local_of t a) (λ t. local_of t c)
          (own tenant _ _ _ (one.local tenant) ∙ ap (λ l. (f l).local) (same tenant))
          (λ t apart. other t tenant _ _ _ apart (one.local t) ∙ same t);
      said = one.said ∙ ap (λ l. map said_in x ++ (f l).said) (same tenant);
      fits = sym (ap (λ l. (f l).fits) (same tenant)) ∙ one.fits;
      keeps = keeps_both a b c kept one.keeps;
    }

    pub stops_since : (fault : Fault) → StopsReacting tenant f b fault → StopsReacting tenant f a fault
    stops_since OutOfMemory stops = tt
    stops_since CountsExhausted stops = sym (ap (λ l. (f l).fits) (same tenant)) ∙ stops
    stops_since PatternNotBuilt stops = stops
    stops_since StoreRefused stops = stops

  -- nothing is done
  pub nothing : (f : Local → Reaction) (a : Site) (x : List Spoken) → f (local_of tenant a) ≡ stays (local_of tenant a) → Reacts tenant f a a x x
  nothing f a x is = record {
    local = one_changes tenant (λ l. (f l).local) (λ t. local_of t a) (λ t. local_of t a) (sym (ap (λ (r : Reaction). r.local) is)) (λ t apart. refl);
    said = sym (append-nil (map said_in x)) ∙ ap (λ (r : Reaction). map said_in x ++ r.said) (sym is);
    fits = ap (λ (r : Reaction). r.fits) is;
    keeps = keeps_all _;
  }

  -- nothing is said
  pub quiet : (f : Local → Reaction) (a b : Site) (x : List Spoken) → Does tenant f a b → Reacts tenant f a b x x
  quiet f a b x does = record {
    local = does.local;
    said = sym (append-nil (map said_in x)) ∙ ap (λ said. map said_in x ++ said) (sym does.said);
    fits = does.fits;
    keeps = does.keeps;
  }

  module _ (f g : Local → Reaction) (a b : Site) (x y : List Spoken) where
    pub in_turn_reacts : (c : Site) (z : List Spoken) → Reacts tenant f a b x y → Reacts tenant g b c y z → Reacts tenant (f >> g) a c x z
    in_turn_reacts c z one two =
        let first = f (local_of tenant a) in
        let mid : local_of tenant b ≡ first.local = own tenant _ _ _ (one.local tenant) in
        record {
          local = one_changes tenant (λ l. ((f >> g) l).local) (λ t. local_of t a) (λ t. local_of t c)
              (own tenant _ _ _ (two.local tenant) ∙ ap (λ l. (g l).local) mid)
              (λ t apart. other t tenant _ _ _ apart (two.local t) ∙ other t tenant _ _ _ apart (one.local t));
          said = two.said ∙ ap (λ l. map said_in y ++ (g l).said) mid ∙ ap (λ said. said ++ (g first.local).said) one.said
              ∙ append_assoc (map said_in x) first.said (g first.local).said;
          fits = ap (λ b. b && (g first.local).fits) one.fits ∙ ap (λ l. (g l).fits) (sym mid) ∙ two.fits;
          keeps = keeps_both a b c one.keeps two.keeps;
        }

    -- what stops the second stops both
    pub stops_second : (fault : Fault) → Reacts tenant f a b x y → StopsReacting tenant g b fault → StopsReacting tenant (f >> g) a fault
    stops_second OutOfMemory one stops = tt
    stops_second CountsExhausted one stops =
        let first = f (local_of tenant a) in
        let mid : local_of tenant b ≡ first.local = own tenant _ _ _ (one.local tenant) in
        ap (λ b. b && (g first.local).fits) one.fits ∙ ap (λ l. (g l).fits) (sym mid) ∙ stops
    stops_second PatternNotBuilt one stops = stops
    stops_second StoreRefused one stops = stops

  -- .. and so does what stops the first
  pub stops_first : (f g : Local → Reaction) (a : Site) (fault : Fault) → StopsReacting tenant f a fault → StopsReacting tenant (f >> g) a fault
  stops_first f g a OutOfMemory stops = tt
  stops_first f g a CountsExhausted stops = ap (λ b. b && (g ((f (local_of tenant a)).local)).fits) stops
  stops_first f g a PatternNotBuilt stops = stops
  stops_first f g a StoreRefused stops = stops

  -- ---- for each of several

  module _ {A : Type 0} (f : A → Local → Reaction) where
    pub none_yet : (a : Site) (x : List Spoken) → Reacts tenant (each f []) a a x x
    none_yet a x = record {
      local = one_changes tenant (λ l. l) (λ t. local_of t a) (λ t. local_of t a) refl (λ t apart. refl);
      said = sym (append-nil (map said_in x));
      fits = refl;
      keeps = keeps_all _;
    }

    pub one_more : (xs : List A) (item : A) (a b c : Site) (x y z : List Spoken) → Reacts tenant (each f xs) a b x y → Reacts tenant (f item) b c y z
        → Reacts tenant (each f (xs ++ item ∷ [])) a c x z
    one_more xs item a b c x y z some one =
        reacts_as (each f xs >> f item) (each f (xs ++ item ∷ [])) a c x z (λ l. sym (each_more f xs item l))
        (in_turn_reacts (each f xs) (f item) a b x y c z some one)

    pub stops_at : (xs : List A) (item : A) (ys : List A) (a b : Site) (x y : List Spoken) (fault : Fault) → Reacts tenant (each f xs) a b x y
        → StopsReacting tenant (f item) b fault → StopsReacting tenant (each f (xs ++ item ∷ ys)) a fault
    stops_at xs item ys a b x y fault some stops =
        stops_as (each f xs >> each f (item ∷ ys)) (each f (xs ++ item ∷ ys)) a fault (λ l. sym (each_append f xs (item ∷ ys) l))
        (stops_second (each f xs) (each f (item ∷ ys)) a b x y fault some (stops_first (f item) (each f ys) b fault stops))
