-- What is sent again to other instances stays where a tenant's progress changes.
use Rattle.std.proofs.Common.{◌≡◌, ℕ, Bool, true, false, ◌&&◌, ◌||◌, ◌==◌, not, cond, List, [], ◌∷◌, ◌++◌, Option, Some, None, option_map, unwrap_or, Less, Equal, Greater, Ordering, is_some, if◌then◌else◌, refl, sym, ap, ◌∙◌, arith, nat_cmp}
use Rattle.std.specs.BTreeMap.{insert_entry}
use Rattle.std.specs.Cmp.{Equal-is}
use Rattle.std.specs.Map.{keys_of}
use Rattle.std.specs.Ordering.{is_eq, match_ordering}
use Rattle.std.proofs.lemmas.Bool.Decides.{nat_tests}
use Rattle.std.proofs.lemmas.Map.Lookups.{exact_unsigned}
use Rattle.std.specs.List.{list_all}
use Rattle.am_item.specs.declared.item.Item.{Item}
use Rattle.am_ring.specs.Instances.{is_among}
use Rattle.am_transfer.specs.Peers.{ByNumber, Peer, at_number, at_peer, peer, with_number, without_number}
use Rattle.am_transfer.specs.Pieces.{SentList, Span, named_at}
use Rattle.am_tenant.specs.Names.{same}
use Rattle.am_tenant.proofs.Same.{eq_from_same, same-refl}
use Rattle.am_timer.specs.declared.key.TimerKey.TheVariants.{Operation, Group, Retry, Push as PushKey}
use Rattle.am_timer.specs.Tied.{has_timer}
use Rattle.am_timer.specs.Timer.{Key, Timer}
use Rattle.am_transfer.specs.Tenants.{progress_of}
use Rattle.am_transfer.specs.Timers.{due_for, is_at, is_for, is_told, names_one, told_to}
use Rattle.am_transfer.specs.Progress.{Progress, after_got, ask_due, asked_of, due_of, first_asked, is_asking, is_got, nothing_yet, on, push_due, sent_again, sent_by, to_ask}
use Rattle.am_transfer.specs.Settling.{Push, Settling, answered, asking, ended_by, in_new_epoch, is_merged, lacking, named_in, now_settled, pushed, settled_by, taken, with_list, with_span, without_push}
use Rattle.am_transfer.proofs.Timed.{StaysElsewhere, for_none}

same_number : (n m : ℕ) → is_eq (nat_cmp n m) ≡ (n == m)
same_number n m = grind (arith, nat_tests)

apart : (i n m : ℕ) → (i == n) ≡ false → nat_cmp n m ≡ Equal → (i == m) ≡ false
apart i n m other e = ap (λ k. i == k) (sym (exact_unsigned n m e)) ∙ other

module _ {X : Type 0} (i n : ℕ) (other : (i == n) ≡ false) where
  -- a look-up at another number
  pub put_apart : (x : X) (es : ByNumber X) → at_number i (with_number n x es) ≡ at_number i es
  put_apart x [] = ap (λ b. cond b (Some x) None) other
  put_apart x (e ∷ es) = by_order (nat_cmp n e.0) refl (put_apart x es)
    where
      by_order : (o : Ordering) → nat_cmp n e.0 ≡ o → at_number i (with_number n x es) ≡ at_number i es
          → at_number i (match_ordering o ((n, x) ∷ e ∷ es) ((e.0, x) ∷ es) (e ∷ with_number n x es)) ≡ at_number i (e ∷ es)
      by_order Less h rest = ap (λ b. cond b (Some x) (at_number i (e ∷ es))) other
      by_order Equal h rest =
          let far = apart i n e.0 other h in
          ap (λ b. cond b (Some x) (at_number i es)) far ∙ sym (ap (λ b. cond b (Some e.1) (at_number i es)) far)
      by_order Greater h rest = ap (λ (o : Option X). cond (i == e.0) (Some e.1) o) rest

  pub gone_apart : (es : ByNumber X) → at_number i (without_number n es) ≡ at_number i es
  gone_apart [] = refl
  gone_apart (e ∷ es) = by_test (n == e.0) refl (gone_apart es)
    where
      by_test : (b : Bool) → (n == e.0) ≡ b → at_number i (without_number n es) ≡ at_number i es → at_number i (without_number n (e ∷ es)) ≡ at_number i (e ∷ es)
      by_test true h rest =
          let far = apart i n e.0 other ((Equal-is (nat_cmp n e.0)).0 (same_number n e.0 ∙ h)) in
          rw h (rest ∙ sym (ap (λ b. cond b (Some e.1) (at_number i es)) far))
      by_test false h rest = rw h (ap (λ (o : Option X). cond (i == e.0) (Some e.1) o) rest)

-- a number that is no key isn't found
none_there : {X : Type 0} (i : ℕ) (es : ByNumber X) → is_among i (keys_of es) ≡ false → at_number i es ≡ None
none_there i [] h = refl
none_there i (e ∷ es) h = by_test (i == e.0) h (none_there i es)
  where
    by_test : (b : Bool) → (b || is_among i (keys_of es)) ≡ false → (is_among i (keys_of es) ≡ false → at_number i es ≡ None) → cond b (Some e.1) (at_number i es) ≡ None
    by_test true h rest = absurd (cc)
    by_test false h rest = rest h

not_one : (i n : ℕ) → is_among i (n ∷ []) ≡ false → (i == n) ≡ false
not_one i n h = by_test (i == n) h
  where
    by_test : (b : Bool) → (b || false) ≡ false → b ≡ false
    by_test true h = h
    by_test false h = refl

-- one of two lists that are joined
not_first : (i : ℕ) (xs ys : List ℕ) → is_among i (xs ++ ys) ≡ false → is_among i xs ≡ false
not_first i [] ys h = refl
not_first i (x ∷ xs) ys h = by_test (i == x) h (not_first i xs ys)
  where
    by_test : (b : Bool) → (b || is_among i (xs ++ ys)) ≡ false → (is_among i (xs ++ ys) ≡ false → is_among i xs ≡ false) → (b || is_among i xs) ≡ false
    by_test true h rest = h
    by_test false h rest = rest h

not_second : (i : ℕ) (xs ys : List ℕ) → is_among i (xs ++ ys) ≡ false → is_among i ys ≡ false
not_second i [] ys h = h
not_second i (x ∷ xs) ys h = by_test (i == x) h (not_second i xs ys)
  where
    by_test : (b : Bool) → (b || is_among i (xs ++ ys)) ≡ false → (is_among i (xs ++ ys) ≡ false → is_among i ys ≡ false) → is_among i ys ≡ false
    by_test true h rest = absurd (cc)
    by_test false h rest = rest h

-- ---- what wasn't asked is a push alone

no_ask : (o : Option ℕ) (there : Bool) → ask_due o false there ≡ None
no_ask None there = refl
no_ask (Some last) there = refl

pushed_alone : (i : ℕ) (p : Progress) → is_among i p.asked ≡ false → due_of i p ≡ push_due (at_number i p.settling.pushes) None
unfolding due_of
pushed_alone i p h =
    ap (λ b. push_due (at_number i p.settling.pushes) (ask_due p.settling.asked_at b (is_merged p.settling i))) h
    ∙ ap (push_due (at_number i p.settling.pushes)) (no_ask p.settling.asked_at (is_merged p.settling i))

-- where the pushes are the same, and whom it asked
same_pushes : (i : ℕ) (p q : Progress) → is_among i p.asked ≡ false → is_among i q.asked ≡ false → at_number i q.settling.pushes ≡ at_number i p.settling.pushes → due_of i q ≡ due_of i p
same_pushes i p q own other e = pushed_alone i q other ∙ ap (λ o. push_due o None) e ∙ sym (pushed_alone i p own)

-- ---- each call

pub push_stays : (receiver : Peer) (moment : ℕ) (held : List Item) (p : Progress) → StaysElsewhere (receiver.instance ∷ []) p (on (pushed receiver moment held) p)
unfolding due_of
push_stays receiver moment held p i h =
    ap (λ o. push_due o (ask_due p.settling.asked_at (is_among i p.asked) (is_merged p.settling i)))
    (put_apart i receiver.instance (not_one i receiver.instance h) (let q : Push = record { incarnation = receiver.incarnation; last = moment } in q) p.settling.pushes)

pub end_stays : (to : ℕ) (p : Progress) → StaysElsewhere (to ∷ []) p (on (without_push to) p)
unfolding due_of
end_stays to p i h =
    ap (λ o. push_due o (ask_due p.settling.asked_at (is_among i p.asked) (is_merged p.settling i))) (gone_apart i to (not_one i to h) p.settling.pushes)

pub answer_stays : (asker : Peer) (held : List Item) (p : Progress) → StaysElsewhere [] p (on (answered asker held) p)
unfolding due_of
answer_stays asker held p i h = refl

pub got_stays : (from : Peer) (present place : ℕ) (p : Progress) → StaysElsewhere (from.instance ∷ []) p (on (after_got from present place) p)
unfolding due_of
got_stays from present place p i h = by_test (is_got from present p.settling)
  where
    by_end : (list : SentList) (b : Bool)
        → due_of i (on (λ s. if b then without_push from.instance (with_list from list s) else with_list from list s) p) ≡ due_of i p
    by_end list true =
        ap (λ o. push_due o (ask_due p.settling.asked_at (is_among i p.asked) (is_merged p.settling i))) (gone_apart i from.instance (not_one i from.instance h) p.settling.pushes)
    by_end list false = refl

    by_list : (o : Option SentList) → due_of i (on (λ s. unwrap_or (option_map (λ list. ended_by from (named_at place list) s) o) s) p) ≡ due_of i p
    by_list None = refl
    by_list (Some list) = by_end (named_at place list) (named_at place list).is_ended

    by_test : (b : Bool) → due_of i (on (λ s. if b then named_in from place s else s) p) ≡ due_of i p
    by_test true = by_list (at_peer from p.settling.lists)
    by_test false = refl

pub take_stays : (sender : Peer) (place : ℕ) (span : Span) (others : List ℕ) (p : Progress) → StaysElsewhere p.asked p (on (taken sender place span others) p)
take_stays sender place span others p i h = same_pushes i p (on (taken sender place span others) p) h h (by_test (list_all (is_merged (with_span sender place span p.settling)) others))
  where
    by_test : (b : Bool) → at_number i (if b then now_settled (with_span sender place span p.settling) else with_span sender place span p.settling).pushes ≡ at_number i p.settling.pushes
    by_test true = refl
    by_test false = refl

pub settle_stays : (p : Progress) → StaysElsewhere p.asked p (on now_settled p)
settle_stays p i h = same_pushes i p (on now_settled p) h h refl

pub ask_stays : (moment : ℕ) (others : List ℕ) (p : Progress) → StaysElsewhere others p (first_asked moment others p)
unfolding due_of
ask_stays moment others p i h = by_moment p.settling.asked_at refl
  where
    by_receivers : (receivers : List ℕ) → p.settling.asked_at ≡ None → due_of i (asked_of receivers others moment p) ≡ due_of i p
    by_receivers [] none = refl
    by_receivers (r ∷ receivers) none =
        let lonely : ask_due p.settling.asked_at (is_among i p.asked) (is_merged p.settling i) ≡ None = ap (λ o. ask_due o (is_among i p.asked) (is_merged p.settling i)) none in
        ap (λ b. push_due (at_number i p.settling.pushes) (ask_due (Some moment) b (is_merged p.settling i))) h
        ∙ ap (push_due (at_number i p.settling.pushes)) (sym lonely)

    by_moment : (o : Option ℕ) → p.settling.asked_at ≡ o → due_of i (asked_of (if is_some p.settling.asked_at then [] else lacking others p.settling) others moment p) ≡ due_of i p
    by_moment None e = ap (λ o. due_of i (asked_of (if is_some o then [] else lacking others p.settling) others moment p)) e ∙ by_receivers (lacking others p.settling) e
    by_moment (Some last) e = ap (λ o. due_of i (asked_of (if is_some o then [] else lacking others p.settling) others moment p)) e

pub tick_stays : (to moment : ℕ) (held : List Item) (p : Progress) → StaysElsewhere (p.asked ++ to ∷ []) p (sent_again to moment held p)
tick_stays to moment held p i h = by_push (at_number to p.settling.pushes)
  where
    unasked : is_among i p.asked ≡ false
    unasked = not_first i p.asked (to ∷ []) h

    by_test : (b : Bool) → due_of i (on (λ s. if b then asking moment s else s) p) ≡ due_of i p
    by_test true = same_pushes i p (on (asking moment) p) unasked unasked refl
    by_test false = refl

    by_push : (o : Option Push) → due_of i (on (sent_by o (is_asking to p) to moment held) p) ≡ due_of i p
    by_push None = by_test (is_asking to p)
    by_push (Some push) = push_stays (peer to push.incarnation) moment held p i (not_second i p.asked (to ∷ []) h)

-- ---- where nothing is sent again afterwards

nothing_due : (i : ℕ) → due_of i nothing_yet ≡ None
unfolding due_of
nothing_due i = refl

turned_due : (i : ℕ) (p : Progress) → due_of i (on in_new_epoch p) ≡ None
unfolding due_of
turned_due i p = refl

no_more : (i : ℕ) (p : Progress) → is_among i (told_to p) ≡ false → due_of i p ≡ None
no_more i p h =
    pushed_alone i p (not_first i p.asked (keys_of p.settling.pushes) h)
    ∙ ap (λ o. push_due o None) (none_there i p.settling.pushes (not_second i p.asked (keys_of p.settling.pushes) h))

pub change_stays : (p : Progress) → StaysElsewhere (told_to p) p (on in_new_epoch p)
change_stays p i h = turned_due i p ∙ sym (no_more i p h)

pub drop_stays : (p : Progress) → StaysElsewhere (told_to p) p nothing_yet
drop_stays p i h = nothing_due i ∙ sym (no_more i p h)

-- timers of a tenant of whom nothing is sent again were cancelled
pub cancelled : (tenant instances : List ℕ) (new : List (List ℕ × Progress)) (before after : List Timer) → ((i : ℕ) → due_of i (progress_of tenant new) ≡ None)
    → ((x : Timer) → has_timer after x ≡ (if is_for tenant instances x then false else has_timer before x))
    → (x : Timer) → has_timer after x ≡ (if is_for tenant instances x then is_told x new else has_timer before x)
cancelled tenant instances new before after none gone x = gone x ∙ by_tenant (same tenant x.name.tenant) refl
  where
    nothing : (key : Key) → due_for key (progress_of tenant new) ≡ None
    nothing (Operation number) = refl
    nothing (Group key) = refl
    nothing (Retry number) = refl
    nothing (PushKey instance) = none instance

    by_tenant : (b : Bool) → same tenant x.name.tenant ≡ b
        → (if b && names_one instances x.name.key then false else has_timer before x) ≡ (if b && names_one instances x.name.key then is_told x new else has_timer before x)
    by_tenant false e = refl
    by_tenant true e =
        ap (λ told. if names_one instances x.name.key then told else has_timer before x)
        (sym (ap (λ o. is_at o x.due) (ap (λ t. due_for x.name.key (progress_of t new)) (sym (eq_from_same tenant x.name.tenant e)) ∙ nothing x.name.key)))

pub changed_none : (tenant : List ℕ) (old new : List (List ℕ × Progress)) → ((t : List ℕ) → progress_of t new ≡ (if same t tenant then on in_new_epoch (progress_of t old) else progress_of t old))
    → (i : ℕ) → due_of i (progress_of tenant new) ≡ None
changed_none tenant old new each i =
    ap (due_of i) (each tenant ∙ ap (λ b. if b then on in_new_epoch (progress_of tenant old) else progress_of tenant old) (same-refl tenant)) ∙ turned_due i (progress_of tenant old)

pub dropped_none : (tenant : List ℕ) (old new : List (List ℕ × Progress)) → ((t : List ℕ) → progress_of t new ≡ (if same t tenant then nothing_yet else progress_of t old))
    → (i : ℕ) → due_of i (progress_of tenant new) ≡ None
dropped_none tenant old new each i =
    ap (due_of i) (each tenant ∙ ap (λ b. if b then nothing_yet else progress_of tenant old) (same-refl tenant)) ∙ nothing_due i

-- ---- where the timers stay, or the list of instances is told otherwise

pub none_for : (tenant : List ℕ) (new : List (List ℕ × Progress)) (timers : List Timer)
    → (x : Timer) → has_timer timers x ≡ (if is_for tenant [] x then is_told x new else has_timer timers x)
none_for tenant new timers x = sym (ap (λ c. if c then is_told x new else has_timer timers x) (for_none tenant x))

pub for_same : (tenant xs ys : List ℕ) → xs ≡ ys → (new : List (List ℕ × Progress)) (before after : List Timer)
    → ((x : Timer) → has_timer after x ≡ (if is_for tenant xs x then is_told x new else has_timer before x))
    → (x : Timer) → has_timer after x ≡ (if is_for tenant ys x then is_told x new else has_timer before x)
for_same tenant xs ys e new before after h x = h x ∙ ap (λ zs. if is_for tenant zs x then is_told x new else has_timer before x) e

-- where nothing is kept no timer is told
pub none_told : (entries : List (List ℕ × Progress)) (timers : List Timer) → ((t : List ℕ) → progress_of t entries ≡ nothing_yet) → timers ≡ []
    → (x : Timer) → has_timer timers x ≡ is_told x entries
none_told entries timers none empty x =
    ap (λ ts. has_timer ts x) empty ∙ sym (ap (λ p. is_at (due_for x.name.key p) x.due) (none x.name.tenant) ∙ ap (λ o. is_at o x.due) (nothing x.name.key))
  where
    nothing : (key : Key) → due_for key nothing_yet ≡ None
    nothing (Operation number) = refl
    nothing (Group key) = refl
    nothing (Retry number) = refl
    nothing (PushKey instance) = nothing_due instance
