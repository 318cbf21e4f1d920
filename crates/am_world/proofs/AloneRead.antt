-- What is known of a connection where a piece of it comes.
use Rattle.std.proofs.Common.{◌≡◌, inl, inr, ◌∙◌, ℕ, ◌==◌, nat_eq, true, false, List, [], ◌∷◌, ◌++◌, Option, None, Some}
use Rattle.std.proofs.Common.{refl, sym, ap, arith, if◌then◌else◌, Bool}
use Rattle.std.proofs.lemmas.Bool.{cases_Bool}
use Rattle.std.proofs.lemmas.Bool.Decides.{nat_tests}
use Rattle.am_cluster.specs.Events.{Bytes}
use Rattle.am_cluster.specs.Moments.{is_too_late}
use Rattle.am_cluster.specs.Outputs.{answered_by, answered_on, front_told}
use Rattle.am_cluster.specs.View.{AskedAs, FrontAnswered, Reading, Seen, Shut, Table, Watch, adds, asked_by, asked_on}
use Rattle.am_cluster.specs.View.{look, noted, seen_as, watch, with_table}
use Rattle.am_http.specs.Connections.{left_open}
use Rattle.am_http.specs.Verdict.{verdict}
use Rattle.am_http.specs.declared.request.Fed.{Fed}
use Rattle.am_http.specs.declared.request.Fed.TheVariants as fed
use Rattle.am_instance.specs.Instance.{bytes_in}
use Rattle.am_instance.specs.declared.instance.Instance.{Instance}
use Rattle.am_world.specs.Places.{EachIs, SameElsewhere, bytes_at, bytes_where, instance_at}
use Rattle.am_world.specs.Simulation.{Follows, bytes_read}
use Rattle.am_world.specs.Steps.{Later}
use Rattle.am_world.specs.declared.state.State.{State}
use Rattle.am_world.proofs.AlonePlaces.{at_each, bytes_other}

pub itself : (n : ℕ) → nat_eq n n ≡ true
itself n = grind (arith, nat_tests)

-- ---- what is read

-- what an instance reads is read there in each table that the world follows
read_there : (n i : ℕ) (before bytes : List ℕ) → Some bytes ≡ (if n == i then Some before else None)
    → Some (Reading i before) ≡ Some (Reading n bytes)
read_there n i before bytes e = elim (cases_Bool (nat_eq n i)) [
  | inl h ↦ let number : i ≡ n = grind (arith, nat_tests) in let same_bytes = rw h at e in cc
  | inr h ↦ let never = rw h at e in cc
]

reading_there : (n : ℕ) (s : Option Seen) (bytes : List ℕ) → Some bytes ≡ bytes_read n s → s ≡ Some (Reading n bytes)
reading_there n None bytes e = cc
reading_there n (Some (Reading i before)) bytes e = read_there n i before bytes e
reading_there n (Some (AskedAs tenant)) bytes e = cc
reading_there n (Some FrontAnswered) bytes e = cc
reading_there n (Some Shut) bytes e = cc

pub seen_reading : (v : Watch) (w : State) (n c : ℕ) (before : List ℕ) → Follows v w
    → bytes_at c n w.instances ≡ Some before → look c v.table ≡ Some (Reading n before)
seen_reading v w n c before follows here = reading_there n (look c v.table) before (sym here ∙ follows.reading c n)

-- ---- a connection that no instance reads

read_itself : (i : ℕ) (before : List ℕ) → (if i == i then Some before else None) ≡ None → ⊥
read_itself i before e = let never = rw (itself i) at e in cc

noted_unread : (s : Option Seen) (c : ℕ) (piece : List ℕ) (table : Table) → ((i : ℕ) → bytes_read i s ≡ None)
    → noted c piece s table ≡ table
noted_unread None c piece table unread = refl
noted_unread (Some (Reading i before)) c piece table unread = absurd (read_itself i before (unread i))
noted_unread (Some (AskedAs tenant)) c piece table unread = refl
noted_unread (Some FrontAnswered) c piece table unread = refl
noted_unread (Some Shut) c piece table unread = refl

asked_unread : (s : Option Seen) (t : List ℕ) (c m : ℕ) (piece : List ℕ) → ((i : ℕ) → bytes_read i s ≡ None)
    → asked_on t c m piece s ≡ []
asked_unread None t c m piece unread = refl
asked_unread (Some (Reading i before)) t c m piece unread = absurd (read_itself i before (unread i))
asked_unread (Some (AskedAs tenant)) t c m piece unread = refl
asked_unread (Some FrontAnswered) t c m piece unread = refl
asked_unread (Some Shut) t c m piece unread = refl

answered_unread : (s : Option Seen) (c : ℕ) (piece : List ℕ) → ((i : ℕ) → bytes_read i s ≡ None)
    → answered_on c piece s ≡ []
answered_unread None c piece unread = refl
answered_unread (Some (Reading i before)) c piece unread = absurd (read_itself i before (unread i))
answered_unread (Some (AskedAs tenant)) c piece unread = refl
answered_unread (Some FrontAnswered) c piece unread = refl
answered_unread (Some Shut) c piece unread = refl

pub unread_by : (c : ℕ) (xs : List Instance) → EachIs (λ x. bytes_in c x ≡ None) xs → (j : ℕ)
    → bytes_at c j xs ≡ None
unfolding bytes_at
unread_by c xs each j = by_place (instance_at j xs) refl
  where
    by_place : (o : Option Instance) → instance_at j xs ≡ o → bytes_where c o ≡ None
    by_place None e = refl
    by_place (Some x) e = each j x e

module _ (v : Watch) (w : State) (c : ℕ) (follows : Follows v w)
    (unread : (i : ℕ) → bytes_at c i w.instances ≡ None) where
  unread_anywhere : (i : ℕ) → bytes_read i (look c v.table) ≡ None
  unread_anywhere i = sym (follows.reading c i) ∙ unread i

  pub watch_unread : (m : ℕ) (piece : List ℕ) → watch v (Bytes c m piece) ≡ v
  unfolding watch
  watch_unread m piece = by_moment (is_too_late m)
    where
      by_moment : (b : Bool) → (if b then v else with_table (noted c piece (look c v.table) v.table) v) ≡ v
      by_moment true = refl
      by_moment false =
          ap (λ table. with_table table v) (noted_unread (look c v.table) c piece v.table unread_anywhere)

  pub adds_unread : (t : List ℕ) (m : ℕ) (piece : List ℕ) → adds t v (Bytes c m piece) ≡ []
  unfolding adds
  adds_unread t m piece = by_moment (is_too_late m)
    where
      by_moment : (b : Bool) → (if b then [] else asked_on t c m piece (look c v.table)) ≡ []
      by_moment true = refl
      by_moment false = asked_unread (look c v.table) t c m piece unread_anywhere

  pub front_unread : (m : ℕ) (piece : List ℕ) → front_told v (Bytes c m piece) ≡ []
  unfolding front_told
  front_unread m piece = by_moment (is_too_late m)
    where
      by_moment : (b : Bool) → (if b then [] else answered_on c piece (look c v.table)) ≡ []
      by_moment true = refl
      by_moment false = answered_unread (look c v.table) c piece unread_anywhere

-- ---- a piece that is taken

-- what is known afterwards
abbrev pub then_seen : Fed → (n c : ℕ) → List ℕ → Watch → Watch
then_seen told n c bytes v = record { table = (c, seen_as n bytes told) ∷ v.table; roster = v.roster }

module _ (v : Watch) (n c m : ℕ) (before piece : List ℕ) (allowed : is_too_late m ≡ false)
    (seen : look c v.table ≡ Some (Reading n before)) where
  pub sees : watch v (Bytes c m piece) ≡ then_seen (verdict (before ++ piece)) n c (before ++ piece) v
  unfolding watch
  sees = rw (allowed, seen) refl

  pub gives : (t : List ℕ) → adds t v (Bytes c m piece) ≡ asked_by t c n m (verdict (before ++ piece))
  unfolding adds
  gives t = rw (allowed, seen) refl

  pub says : front_told v (Bytes c m piece) ≡ answered_by c (verdict (before ++ piece))
  unfolding front_told
  says = rw (allowed, seen) refl

-- what was decided of connections stays so
pub later_seen : (v : Watch) (n c : ℕ) (before : List ℕ) (s : Seen) → look c v.table ≡ Some (Reading n before)
    → Later v (record { table = (c, s) ∷ v.table; roster = v.roster })
later_seen v n c before s seen = record {
  asked = λ d t e. elim (cases_Bool (nat_eq d c)) [
    | inl h ↦
        let name : d ≡ c = grind (arith, nat_tests) in
        let never : Some (Reading n before) ≡ Some (AskedAs t) = sym seen ∙ ap (λ k. look k v.table) (sym name) ∙ e in
        absurd cc
    | inr h ↦ rw h e
  ];
  answered = λ d e. elim (cases_Bool (nat_eq d c)) [
    | inl h ↦
        let name : d ≡ c = grind (arith, nat_tests) in
        let never : Some (Reading n before) ≡ Some FrontAnswered = sym seen ∙ ap (λ k. look k v.table) (sym name) ∙ e in
        absurd cc
    | inr h ↦ rw h e
  ];
}

pub look_here : (c : ℕ) (s : Seen) (table : Table) → look c ((c, s) ∷ table) ≡ Some s
look_here c s table = rw (itself c) refl

-- a decided connection is read no more
left_reading : (told : Fed) (n : ℕ) (bytes : List ℕ) → left_open told bytes ≡ bytes_read n (Some (seen_as n bytes told))
left_reading fed.Waits n bytes = rw (itself n) refl
left_reading (fed.Refused reason) n bytes = refl
left_reading fed.Ready n bytes = refl
left_reading (fed.Request request) n bytes = refl

-- .. nor elsewhere
left_elsewhere : (told : Fed) (n j : ℕ) (bytes : List ℕ) → nat_eq j n ≡ false
    → None ≡ bytes_read j (Some (seen_as n bytes told))
left_elsewhere fed.Waits n j bytes other = rw other refl
left_elsewhere (fed.Refused reason) n j bytes other = refl
left_elsewhere fed.Ready n j bytes other = refl
left_elsewhere (fed.Request request) n j bytes other = refl

-- the table of the connections after the piece
pub reading_after : (told : Fed) (n c : ℕ) (v : Watch) (before bytes : List ℕ) (xs ys : List Instance)
    → ((d i : ℕ) → bytes_at d i xs ≡ bytes_read i (look d v.table)) → look c v.table ≡ Some (Reading n before)
    → ((d : ℕ) → bytes_at d n ys ≡ (if d == c then left_open told bytes else bytes_at d n xs)) → SameElsewhere n xs ys
    → (d j : ℕ) → bytes_at d j ys ≡ bytes_read j (look d ((c, seen_as n bytes told) ∷ v.table))
reading_after told n c v before bytes xs ys reading seen here others d =
    at_each (λ j. bytes_at d j ys ≡ bytes_read j (look d ((c, seen_as n bytes told) ∷ v.table))) n
    (here d ∙ elim (cases_Bool (nat_eq d c)) [
      | inl k ↦ rw k (left_reading told n bytes)
      | inr k ↦ rw k (reading d n)
    ])
    (λ j h. bytes_other d n j xs ys others h ∙ reading d j ∙ elim (cases_Bool (nat_eq d c)) [
      | inl k ↦
          let name : d ≡ c = grind (arith, nat_tests) in
          rw k (ap (λ e. bytes_read j (look e v.table)) name ∙ ap (bytes_read j) seen
          ∙ rw h (left_elsewhere told n j bytes h))
      | inr k ↦ rw k refl
    ])
