-- All instances of a private cluster have their turns: what is found under a name among all that they send, and that a
-- world has the same under each name of the tenant.
use Rattle.std.proofs.Common.{◌≡◌, ◌∙◌, inl, inr, ℕ, nat_eq, suc, Bool, true, false, Contains, List, [], ◌∷◌}
use Rattle.std.proofs.Common.{◌++◌, ◌&&◌, find, flat_map, is_some, map, Option, None, Some, refl, sym, ap, arith}
use Rattle.std.proofs.Common.{if◌then◌else◌}
use Rattle.std.specs.Prelude.{nat_le}
use Rattle.std.specs.List.{list_all, list_any}
use Rattle.std.specs.Option.{option_or}
use Rattle.std.proofs.lemmas.Bool.{cases_Bool}
use Rattle.std.proofs.lemmas.Bool.Decides.{nat_tests}
use Rattle.std.proofs.lemmas.List.Elements.{Contains-append_right, filter-append}
use Rattle.std.proofs.lemmas.List.Folds.{find-append, list_all-append}
use Rattle.am_cluster.specs.Events.{Output}
use Rattle.am_cluster.specs.Messages.{Message}
use Rattle.am_cluster.specs.Naming.{NamesOnce}
use Rattle.am_cluster.specs.Outputs.{are_owned, front_outputs, is_front, is_tenant, outputs_of, owner}
use Rattle.am_cluster.specs.PrivateCluster.{PrivateCluster, output_of}
use Rattle.am_cluster.specs.Reactions.{Reaction, Said, messages_in}
use Rattle.am_cluster.specs.Sent.{Sent, is_named, sent_at}
use Rattle.am_cluster.specs.View.{Watch}
use Rattle.am_cluster.proofs.Named.{Turn, said_by_all}
use Rattle.am_cluster.proofs.Posted.{none_found}
use Rattle.am_cluster.proofs.Posting.{turn_from, turn_is_new, turn_once}
use Rattle.am_item.specs.Retirement.{moment_after}
use Rattle.am_messages.specs.Posted.{message_life, posted_at}
use Rattle.am_messages.specs.declared.messages.Posted.{Posted}
use Rattle.am_messages.specs.declared.name.MessageName.{MessageName}
use Rattle.am_ring.specs.Instances.{all_instances, is_among}
use Rattle.am_world.specs.Posting.{Post, posted_over, unlost_sent}
use Rattle.am_world.proofs.AloneOwn.{AreOf}
use Rattle.am_world.proofs.Alone.{own_messages}
use Rattle.am_world.proofs.Posted.{AreAlike, named, posted_alike, posted_of_own}
use Rattle.am_world.proofs.TickPlaces.{CountsFrom, all_counted, not_later}

-- ---- lists of several, one after the other

pub or_nothing : {X : Type 0} (o : Option X) → option_or o None ≡ o
or_nothing None = refl
or_nothing (Some x) = refl

pub flat_same : {A : Type 0} (f g : ℕ → List A) (ns : List ℕ) → ((i : ℕ) → f i ≡ g i) → flat_map f ns ≡ flat_map g ns
flat_same f g ns same = λ d. flat_map (λ i. same i d) ns

pub outputs_each : (t : List ℕ) (u : Watch) (f : ℕ → List Output) (ns : List ℕ)
    → outputs_of t u (flat_map f ns) ≡ flat_map (λ i. outputs_of t u (f i)) ns
outputs_each t u f [] = refl
outputs_each t u f (n ∷ ns) =
    filter-append (λ output. is_tenant t (owner u output)) (f n) (flat_map f ns)
    ∙ ap (λ os. outputs_of t u (f n) ++ os) (outputs_each t u f ns)

pub each_fits : (f : ℕ → Reaction) (ns : List ℕ) → ((i : ℕ) → (f i).fits ≡ true) → list_all (λ i. (f i).fits) ns ≡ true
each_fits f [] fits = refl
each_fits f (n ∷ ns) fits = rw (fits n) (each_fits f ns fits)

pub front_each : (u : Watch) (f : ℕ → List Output) (ns : List ℕ) → ((i : ℕ) → front_outputs u (f i) ≡ [])
    → front_outputs u (flat_map f ns) ≡ []
front_each u f [] none = refl
front_each u f (n ∷ ns) none =
    filter-append (λ output. is_front (owner u output)) (f n) (flat_map f ns)
    ∙ ap (λ os. os ++ front_outputs u (flat_map f ns)) (none n) ∙ front_each u f ns none

pub owned_each : (u : Watch) (f : ℕ → List Output) (ns : List ℕ) → ((i : ℕ) → are_owned u (f i) ≡ true)
    → are_owned u (flat_map f ns) ≡ true
owned_each u f [] all = refl
owned_each u f (n ∷ ns) all =
    list_all-append (λ output. is_some (owner u output)) (f n) (flat_map f ns)
    ∙ ap (λ b. b && are_owned u (flat_map f ns)) (all n) ∙ owned_each u f ns all

-- ---- what is found

module _ (q : PrivateCluster) (r : ℕ → Reaction) (turns : (i : ℕ) → Turn q r i) (m : ℕ) where
  module _ (from incarnation to count : ℕ) where
    abbrev its : Sent → Bool
    its s = is_named from incarnation to count s

    abbrev as_said : List Message → List Sent
    as_said ms = map (λ n. let s : Sent = record { message = n; moment = m; given_up = false } in s) ms

    unnamed : (i : ℕ) (ms : List Message) → ((n : Message) → Contains ms n → n.from ≡ i) → nat_eq from i ≡ false
        → list_any its (as_said ms) ≡ false
    unnamed i [] of apart = refl
    unnamed i (n ∷ ms) of apart =
        let is : n.from ≡ i = of n (0, omega arith, refl) in
        let other : nat_eq n.from from ≡ false = grind (arith, nat_tests) in
        rw other (unnamed i ms (λ k among. of k (Contains-append_right (n ∷ []) ms k among)) apart)

    unfound : (i : ℕ) → nat_eq from i ≡ false → find its (sent_at m (r i).said) ≡ None
    unfound i apart =
        none_found its (sent_at m (r i).said)
        (unnamed i (messages_in (r i).said) (λ n among. (turn_from q r turns i n among).0) apart)

    found_from : (n : ℕ) (ns : List ℕ) → CountsFrom n ns → find its (said_by_all m r ns)
        ≡ (if is_among from ns then find its (sent_at m (r from).said) else None)
    found_from n [] counts = refl
    found_from n (i ∷ ns) (first, counts) =
        find-append its (sent_at m (r i).said) (said_by_all m r ns)
        ∙ ap (option_or (find its (sent_at m (r i).said))) (found_from (suc n) ns counts)
        ∙ elim (cases_Bool (nat_eq from i)) [
          | inl h ↦
              let is : i ≡ from = grind (arith, nat_tests) in
              let later : is_among from ns ≡ false = not_later (suc n) from ns counts (omega (arith, is, first)) in
              rw (h, later) (or_nothing (find its (sent_at m (r i).said))
              ∙ ap (λ j. find its (sent_at m (r j).said)) is)
          | inr h ↦ rw (h, unfound i h) refl
        ]

    -- .. is found where that one said it; one that isn't up says nothing
    pub found_all : (among : Bool) → is_among from all_instances ≡ among → (among ≡ false → q.roster.up from ≡ false)
        → find its (said_by_all m r all_instances) ≡ find its (sent_at m (r from).said)
    found_all true is down = found_from 1 all_instances all_counted ∙ rw is refl
    found_all false is down =
        found_from 1 all_instances all_counted
        ∙ rw is (sym (ap (λ ms. find its (as_said ms)) ((turns from).silent (down refl))))

  -- ---- what is posted

  -- under each name of the tenant there is what the cluster sent, where of what each told that is the tenant's which
  -- the cluster's instance says
  pub all_posted : (t : List ℕ) (v : Watch) (old new : Post) (told : ℕ → List Output) → NamesOnce q
      → nat_le (moment_after m message_life) q.clock ≡ false
      → ((i : ℕ) → is_among i all_instances ≡ false → q.roster.up i ≡ false)
      → ((i : ℕ) → AreOf t (r i).said)
      → ((i : ℕ) → outputs_of t v (told i) ≡ map (output_of t i (q.roster.incarnation i)) (r i).said)
      → ((name : MessageName) → posted_at name new ≡ posted_over m (told name.from) name (posted_at name old))
      → AreAlike t q.clock old q.sent → AreAlike t q.clock new (q.sent ++ said_by_all m r all_instances)
  all_posted t v old new told once early down own says posted alike from k to count =
      posted name
      ∙ ap (posted_over m (told from) name) (alike from k to count)
      ∙ posted_of_own m v (told from) name before
      ∙ ap (λ os. posted_over m os name before) (says from)
      ∙ posted_alike m q.clock t from k to count early from (q.roster.incarnation from) said q.sent
      (own_messages t said (own from)) (turn_is_new q r turns once from) (turn_once q r turns m from)
      ∙ ap (unlost_sent q.clock)
      (find-append (is_named from k to count) q.sent (sent_at m said)
      ∙ ap (option_or (find (is_named from k to count) q.sent))
      (sym (found_all from k to count (is_among from all_instances) refl (down from)))
      ∙ sym (find-append (is_named from k to count) q.sent (said_by_all m r all_instances)))
    where
      name : MessageName
      name = named t from k to count

      said : List Said
      said = (r from).said

      before : Option Posted
      before = unlost_sent q.clock (find (is_named from k to count) q.sent)
