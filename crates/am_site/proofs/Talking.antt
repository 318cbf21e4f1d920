-- What an instance says of what its node does: it counts messages alone, so that what the node does and what is said of it
-- can be told apart.
use Rattle.std.proofs.Common.{◌≡◌, ℕ, ◌+◌, Bool, ◌&&◌, true, false, nat_le, List, [], ◌∷◌, ◌++◌, length, map, ap, append_assoc, refl, sym, ◌∙◌}
use Rattle.std.proofs.Math.Bool.{and_assoc}
use Rattle.am_alert.specs.Made.{greatest_count}
use Rattle.am_cluster.specs.Here.{Here, others}
use Rattle.am_cluster.specs.Local.{Local}
use Rattle.am_cluster.specs.Messages.{Body, Put}
use Rattle.am_cluster.specs.Reactions.{Reaction, Said, Replies, Sends, Tells, each, in_turn, says}
use Rattle.am_cluster.specs.Sending.{longest_message, message_to, send_in}
use Rattle.am_node.specs.Local.{Local as NodeLocal, Reaction as NodeReaction, Said as NodeSaid, Replies as NodeReplies, Tells as NodeTells, Records, each as each_in_node, said_in}
use Rattle.am_node.specs.declared.report.Report.{Report}
use Rattle.am_node.specs.declared.report.Report.TheVariants.{Try, Record}
use Rattle.am_quorum.specs.Dockets.{Docket}
use Rattle.am_transfer.specs.Settling.{Settling}
use Rattle.am_wire.specs.Messages.{spelling}
use Rattle.am_site.specs.Locals.{from_rooms}
use Rattle.am_site.specs.Notices.{put_to_others, reported}

-- how many messages were sent then, what was said, and whether all counts fit
pub record Talk : Type 0 where
  pub sent : ℕ
  pub said : List Said
  pub fits : Bool

module _ (here : Here) where
  -- ---- messages to several

  abbrev pub posts : Body → List ℕ → ℕ → Talk
  posts body [] n = record { sent = n; said = []; fits = true }
  posts body (i ∷ is) n = record {
    sent = (posts body is (n + 1)).sent;
    said = Sends (message_to here here.epoch i (n + 1) body) ∷ (posts body is (n + 1)).said;
    fits = (nat_le (n + 1) greatest_count && nat_le (length (spelling (message_to here here.epoch i (n + 1) body))) longest_message) && (posts body is (n + 1)).fits;
  }

  -- ---- what a node says

  abbrev pub spoken : NodeSaid → Local → Reaction
  spoken (NodeReplies connection bytes) l = says (Replies connection bytes) l
  spoken (NodeTells sending) l = says (Tells sending) l
  spoken (Records item) l = put_to_others here item l

  abbrev pub word : NodeSaid → ℕ → Talk
  word (NodeReplies connection bytes) n = record { sent = n; said = Replies connection bytes ∷ []; fits = true }
  word (NodeTells sending) n = record { sent = n; said = Tells sending ∷ []; fits = true }
  word (Records item) n = posts (Put 0 (item ∷ [])) (others here) n

  abbrev pub talk : List NodeSaid → ℕ → Talk
  talk [] n = record { sent = n; said = []; fits = true }
  talk (x ∷ xs) n = record {
    sent = (talk xs (word x n).sent).sent;
    said = (word x n).said ++ (talk xs (word x n).sent).said;
    fits = (word x n).fits && (talk xs (word x n).sent).fits;
  }

  sent_append : (xs ys : List NodeSaid) (n : ℕ) → (talk (xs ++ ys) n).sent ≡ (talk ys (talk xs n).sent).sent
  sent_append [] ys n = refl
  sent_append (x ∷ xs) ys n = sent_append xs ys (word x n).sent

  said_append : (xs ys : List NodeSaid) (n : ℕ) → (talk (xs ++ ys) n).said ≡ (talk xs n).said ++ (talk ys (talk xs n).sent).said
  said_append [] ys n = refl
  said_append (x ∷ xs) ys n =
      ap (λ said. (word x n).said ++ said) (said_append xs ys (word x n).sent) ∙ sym (append_assoc (word x n).said _ _)

  fits_append : (xs ys : List NodeSaid) (n : ℕ) → (talk (xs ++ ys) n).fits ≡ ((talk xs n).fits && (talk ys (talk xs n).sent).fits)
  fits_append [] ys n = refl
  fits_append (x ∷ xs) ys n =
      ap (λ b. (word x n).fits && b) (fits_append xs ys (word x n).sent) ∙ sym (and_assoc (word x n).fits _ _)

  -- ---- as what an instance does

  module _ (d : Docket) (g : Settling) where
    abbrev pub talked : Talk → NodeLocal → Reaction
    talked t node = record { local = from_rooms node d t.sent g; said = t.said; fits = t.fits }

    pub posted : (body : Body) (is : List ℕ) (node : NodeLocal) (n : ℕ) → each (λ i. send_in here.epoch here i body) is (from_rooms node d n g) ≡ talked (posts body is n) node
    unfolding send_in
    posted body [] node n = refl
    posted body (i ∷ is) node n =
        ap (λ (r : Reaction). let whole : Reaction = record {
          local = r.local;
          said = Sends (message_to here here.epoch i (n + 1) body) ∷ r.said;
          fits = (nat_le (n + 1) greatest_count && nat_le (length (spelling (message_to here here.epoch i (n + 1) body))) longest_message) && r.fits;
        } in whole) (posted body is node (n + 1))

    pub one_spoken : (x : NodeSaid) (node : NodeLocal) (n : ℕ) → spoken x (from_rooms node d n g) ≡ talked (word x n) node
    one_spoken (NodeReplies connection bytes) node n = refl
    one_spoken (NodeTells sending) node n = refl
    one_spoken (Records item) node n = posted (Put 0 (item ∷ [])) (others here) node n

    pub all_spoken : (xs : List NodeSaid) (node : NodeLocal) (n : ℕ) → each spoken xs (from_rooms node d n g) ≡ talked (talk xs n) node
    all_spoken [] node n = refl
    all_spoken (x ∷ xs) node n =
        ap (λ (first : Reaction). in_turn first (each spoken xs)) (one_spoken x node n)
        ∙ ap (λ (r : Reaction). let whole : Reaction = record { local = r.local; said = (word x n).said ++ r.said; fits = (word x n).fits && r.fits } in whole)
        (all_spoken xs node (word x n).sent)

    -- ---- what a node does, and what is said of it

    abbrev pub lifted : NodeReaction → ℕ → Reaction
    lifted r n = record {
      local = from_rooms r.local d (talk r.said n).sent g;
      said = (talk r.said n).said;
      fits = r.fits && (talk r.said n).fits;
    }

    abbrev pub IsLifted : (Local → Reaction) → (NodeLocal → NodeReaction) → Type 0
    IsLifted f h = (node : NodeLocal) (n : ℕ) → f (from_rooms node d n g) ≡ lifted (h node) n

    swapped : (a b c d : Bool) → ((a && b) && (c && d)) ≡ ((a && c) && (b && d))
    swapped true true c d = refl
    swapped true false true d = refl
    swapped true false false d = refl
    swapped false b c d = refl

    pub each_lifted : {A : Type 0} (f : A → Local → Reaction) (h : A → NodeLocal → NodeReaction) → ((x : A) → IsLifted (f x) (h x))
        → (xs : List A) → IsLifted (each f xs) (each_in_node h xs)
    each_lifted f h lift [] node n = refl
    each_lifted f h lift (x ∷ xs) node n =
        let r = h x node in
        let n2 = (talk r.said n).sent in
        let rest = each_in_node h xs r.local in
        ap (λ (first : Reaction). in_turn first (each f xs)) (lift x node n)
        ∙ ap (λ (p : Reaction). let whole : Reaction = record { local = p.local; said = (talk r.said n).said ++ p.said; fits = (r.fits && (talk r.said n).fits) && p.fits } in whole) (each_lifted f h lift xs r.local n2)
        ∙ ap (λ s. let whole : Reaction = record { local = from_rooms rest.local d s g; said = (talk r.said n).said ++ (talk rest.said n2).said; fits = (r.fits && (talk r.said n).fits) && (rest.fits && (talk rest.said n2).fits) } in whole)
        (sym (sent_append r.said rest.said n))
        ∙ ap (λ s. let whole : Reaction = record { local = from_rooms rest.local d (talk (r.said ++ rest.said) n).sent g; said = s; fits = (r.fits && (talk r.said n).fits) && (rest.fits && (talk rest.said n2).fits) } in whole)
        (sym (said_append r.said rest.said n))
        ∙ ap (λ b. let whole : Reaction = record { local = from_rooms rest.local d (talk (r.said ++ rest.said) n).sent g; said = (talk (r.said ++ rest.said) n).said; fits = b } in whole)
        (swapped r.fits (talk r.said n).fits rest.fits (talk rest.said n2).fits ∙ ap (λ b. (r.fits && rest.fits) && b) (sym (fits_append r.said rest.said n)))

  -- ---- what is reported

  pub reported_spoken : (reports : List Report) (l : Local) → each (reported here) reports l ≡ each spoken (map said_in reports) l
  reported_spoken [] l = refl
  reported_spoken (Try sending ∷ reports) l =
      ap (λ (r : Reaction). let whole : Reaction = record { local = r.local; said = Tells sending ∷ r.said; fits = r.fits } in whole) (reported_spoken reports l)
  reported_spoken (Record item ∷ reports) l =
      let first = put_to_others here item l in
      ap (λ (r : Reaction). let whole : Reaction = record { local = r.local; said = first.said ++ r.said; fits = first.fits && r.fits } in whole) (reported_spoken reports first.local)
