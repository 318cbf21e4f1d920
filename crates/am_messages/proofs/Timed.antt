-- Each message has its lapse, after each change, and what is lost when lapses come.
use Rattle.std.proofs.Common.{◌≡◌, ℕ, Bool, true, false, ◌==◌, nat_le, List, Option, Some, None, refl, sym, ap, ◌∙◌, subst, arith, if◌then◌else◌}
use Rattle.std.specs.BTreeSet.{BTreeSet}
use Rattle.std.specs.Ordering.{is_eq}
use Rattle.std.proofs.lemmas.Bool.Decides.{nat_tests}
use Rattle.am_messages.specs.declared.messages.Lapse.{Lapse}
use Rattle.am_messages.specs.declared.messages.Posted.{Posted}
use Rattle.am_messages.specs.declared.name.MessageName.{MessageName}
use Rattle.am_messages.specs.Names.{same_name}
use Rattle.am_messages.specs.Posted.{AreTimed, has_lapse, is_over, kept_over, lapse_cmp, lapse_of, lost_at, posted_at, unlost}
use Rattle.am_messages.proofs.Orders.{lapse_itself, name_itself, one_lapse, one_name}

-- what is there under a test that fails, and under one that holds
chosen : {X : Type 0} (b : Bool) (x y : Option X) (z : X) → (if b then x else y) ≡ Some z → (b ≡ true → x ≡ Some z → ⊥) → (b ≡ false) × (y ≡ Some z)
chosen true x y z h never = absurd (never refl h)
chosen false x y z h never = (refl, h)

no_none : {X : Type 0} (z : X) → None ≡ Some z → ⊥
no_none z h = absurd (cc)

clash : (b : Bool) → b ≡ true → b ≡ false → ⊥
clash b t f =
    let both : true ≡ false = sym t ∙ f in
    absurd (cc)

false_where : (b : Bool) → (b ≡ true → ⊥) → b ≡ false
false_where true h = absurd (h refl)
false_where false h = refl

-- another lapse than that of a name
apart : (x : Lapse) (name : MessageName) (p : Posted) → same_name x.name name ≡ false → is_eq (lapse_cmp x (lapse_of name p)) ≡ false
apart x name p other = false_where (is_eq (lapse_cmp x (lapse_of name p))) (λ e.
    let same : x.name ≡ name = ap (λ (l : Lapse). l.name) (one_lapse x (lapse_of name p) e) in
    clash (same_name x.name name) (ap (λ (n : MessageName). same_name n name) same ∙ name_itself name) other)

-- fewer messages need no more lapses
pub timed_fewer : (es new : List (MessageName × Posted)) (ls : BTreeSet Lapse) (name : MessageName) → AreTimed es ls
    → ((n : MessageName) → posted_at n new ≡ (if same_name name n then None else posted_at n es)) → AreTimed new ls
timed_fewer es new ls name timed found n p h =
    timed n p (chosen (same_name name n) None (posted_at n es) p (sym (found n) ∙ h) (λ e none. no_none p none)).1

module _ (es new : List (MessageName × Posted)) (ls after : BTreeSet Lapse) (timed : AreTimed es ls) (x : Lapse) where
  -- a message came
  pub timed_with : (p0 : Posted) → x ≡ lapse_of x.name p0 → ((n : MessageName) → posted_at n new ≡ (if same_name x.name n then Some p0 else posted_at n es))
      → ((l : Lapse) → has_lapse after l ≡ (if is_eq (lapse_cmp x l) then true else has_lapse ls l)) → AreTimed new after
  timed_with p0 its found told n p h = by_cases (same_name x.name n) refl
    where
      either : (b : Bool) → has_lapse ls (lapse_of n p) ≡ true → (if b then true else has_lapse ls (lapse_of n p)) ≡ true
      either true t = refl
      either false t = t

      by_cases : (b : Bool) → same_name x.name n ≡ b → has_lapse after (lapse_of n p) ≡ true
      by_cases true e =
          let there : Some p0 ≡ Some p = sym (found n ∙ ap (λ b. if b then Some p0 else posted_at n es) e) ∙ h in
          let one : p0 ≡ p = cc in
          let same : x ≡ lapse_of n p = its ∙ ap (λ (m : MessageName). lapse_of m p0) (one_name x.name n e) ∙ ap (lapse_of n) one in
          let test : is_eq (lapse_cmp x (lapse_of n p)) ≡ true = ap (λ (l : Lapse). is_eq (lapse_cmp x l)) (sym same) ∙ lapse_itself x in
          told (lapse_of n p) ∙ ap (λ b. if b then true else has_lapse ls (lapse_of n p)) test
      by_cases false e =
          let there : posted_at n es ≡ Some p = sym (found n ∙ ap (λ b. if b then Some p0 else posted_at n es) e) ∙ h in
          told (lapse_of n p) ∙ either (is_eq (lapse_cmp x (lapse_of n p))) (timed n p there)

  -- one lapse more does no harm
  pub timed_more : new ≡ es → ((l : Lapse) → has_lapse after l ≡ (if is_eq (lapse_cmp x l) then true else has_lapse ls l)) → AreTimed new after
  timed_more is told n p h =
      told (lapse_of n p) ∙ either (is_eq (lapse_cmp x (lapse_of n p))) (timed n p (ap (posted_at n) (sym is) ∙ h))
    where
      either : (b : Bool) → has_lapse ls (lapse_of n p) ≡ true → (if b then true else has_lapse ls (lapse_of n p)) ≡ true
      either true t = refl
      either false t = t

  module _ (told : (l : Lapse) → has_lapse after l ≡ (if is_eq (lapse_cmp x l) then false else has_lapse ls l)) where
    stays : (n : MessageName) (p : Posted) → is_eq (lapse_cmp x (lapse_of n p)) ≡ false → posted_at n es ≡ Some p → has_lapse after (lapse_of n p) ≡ true
    stays n p other there = told (lapse_of n p) ∙ ap (λ b. if b then false else has_lapse ls (lapse_of n p)) other ∙ timed n p there

    -- the message of a name went, with its lapse
    pub timed_without : ((n : MessageName) → posted_at n new ≡ (if same_name x.name n then None else posted_at n es)) → AreTimed new after
    timed_without found n p h =
        let parts = chosen (same_name x.name n) None (posted_at n es) p (sym (found n) ∙ h) (λ e none. no_none p none) in
        stays n p (apart x n p parts.0) parts.1

    -- a lapse came
    pub timed_kept : ((n : MessageName) → posted_at n new ≡ (if same_name x.name n then kept_over x.at (posted_at n es) else posted_at n es)) → AreTimed new after
    timed_kept found n p h = by_cases (same_name x.name n) refl
      where
        kept : (o : Option Posted) → posted_at n es ≡ o → kept_over x.at o ≡ Some p → has_lapse after (lapse_of n p) ≡ true
        kept None at k = absurd (no_none p k)
        kept (Some q) at k =
            let parts = chosen (lost_at q == x.at) None (Some q) p k (λ e none. no_none p none) in
            let one : q ≡ p = cc in
            let other : (lost_at p == x.at) ≡ false = ap (λ (r : Posted). lost_at r == x.at) (sym one) ∙ parts.0 in
            stays n p (false_where (is_eq (lapse_cmp x (lapse_of n p))) (λ e. differ (ap (λ (l : Lapse). l.at) (one_lapse x (lapse_of n p) e)) other)) (at ∙ ap Some one)
          where
            differ : x.at ≡ lost_at p → (lost_at p == x.at) ≡ false → ⊥
            differ same other = clash (lost_at p == x.at) (equal (lost_at p) x.at (sym same)) other
              where
                equal : (a b : ℕ) → a ≡ b → (a == b) ≡ true
                equal a b h = grind (arith, nat_tests)

        by_cases : (b : Bool) → same_name x.name n ≡ b → has_lapse after (lapse_of n p) ≡ true
        by_cases true e = kept (posted_at n es) refl (sym (found n ∙ ap (λ b. if b then kept_over x.at (posted_at n es) else posted_at n es) e) ∙ h)
        by_cases false e =
            let there : posted_at n es ≡ Some p = sym (found n ∙ ap (λ b. if b then kept_over x.at (posted_at n es) else posted_at n es) e) ∙ h in
            stays n p (apart x n p e) there

-- what is lost at a lapse that has come is lost by now
over : (now at : ℕ) (o : Option Posted) → nat_le at now ≡ true → unlost now (kept_over at o) ≡ unlost now o
over now at None due = refl
over now at (Some p) due = by_cases (lost_at p == at) refl
  where
    lost : (lost_at p == at) ≡ true → nat_le (lost_at p) now ≡ true
    lost e = grind (arith, nat_tests)

    by_cases : (b : Bool) → (lost_at p == at) ≡ b → unlost now (kept_over at (Some p)) ≡ unlost now (Some p)
    by_cases true e = rw e (sym (ap (λ b. if b then None else Some p) (lost e)))
    by_cases false e = rw e refl

pub over_by : (now : ℕ) (x : Lapse) (n : MessageName) (old new : Option Posted) → nat_le x.at now ≡ true
    → new ≡ (if same_name x.name n then kept_over x.at old else old) → unlost now new ≡ unlost now old
over_by now x n old new due is = ap (unlost now) is ∙ by_cases (same_name x.name n)
  where
    by_cases : (b : Bool) → unlost now (if b then kept_over x.at old else old) ≡ unlost now old
    by_cases true = over now x.at old due
    by_cases false = refl

-- where no lapse has come, nothing is lost
pub none_lost : (now : ℕ) (es : List (MessageName × Posted)) (ls : BTreeSet Lapse) → AreTimed es ls → ((l : Lapse) → has_lapse ls l ≡ true → nat_le l.at now ≡ false)
    → (n : MessageName) → unlost now (posted_at n es) ≡ posted_at n es
none_lost now es ls timed none n = by_cases (posted_at n es) refl
  where
    by_cases : (o : Option Posted) → posted_at n es ≡ o → unlost now o ≡ o
    by_cases None at = refl
    by_cases (Some p) at = rw (none (lapse_of n p) (timed n p at)) refl

-- ---- a lapse that comes

kept_none : (at : ℕ) (o : Option Posted) → is_over at o ≡ true → kept_over at o ≡ None
kept_none at None h = refl
kept_none at (Some p) h = rw h refl

kept_same : (at : ℕ) (o : Option Posted) → is_over at o ≡ false → kept_over at o ≡ o
kept_same at None h = refl
kept_same at (Some p) h = rw h refl

module _ (x : Lapse) (es : List (MessageName × Posted)) where
  pub forgotten : (new : List (MessageName × Posted)) → is_over x.at (posted_at x.name es) ≡ true → ((n : MessageName) → posted_at n new ≡ (if same_name x.name n then None else posted_at n es))
      → (n : MessageName) → posted_at n new ≡ (if same_name x.name n then kept_over x.at (posted_at n es) else posted_at n es)
  forgotten new over found n = found n ∙ by_cases (same_name x.name n) refl
    where
      by_cases : (b : Bool) → same_name x.name n ≡ b → (if b then None else posted_at n es) ≡ (if b then kept_over x.at (posted_at n es) else posted_at n es)
      by_cases true e = sym (ap (λ (m : MessageName). kept_over x.at (posted_at m es)) (sym (one_name x.name n e)) ∙ kept_none x.at (posted_at x.name es) over)
      by_cases false e = refl

  pub remembered : is_over x.at (posted_at x.name es) ≡ false → (n : MessageName) → posted_at n es ≡ (if same_name x.name n then kept_over x.at (posted_at n es) else posted_at n es)
  remembered stays n = by_cases (same_name x.name n) refl
    where
      by_cases : (b : Bool) → same_name x.name n ≡ b → posted_at n es ≡ (if b then kept_over x.at (posted_at n es) else posted_at n es)
      by_cases true e =
          let same = one_name x.name n e in
          sym (ap (λ (m : MessageName). kept_over x.at (posted_at m es)) (sym same) ∙ kept_same x.at (posted_at x.name es) stays ∙ ap (λ (m : MessageName). posted_at m es) same)
      by_cases false e = refl
