-- What was decided on an operation is carried out.
use Rattle.std.proofs.Common.{◌≡◌, ℕ, ◌==◌, Bool, true, false, List, [], ◌∷◌, ◌++◌, length, map, Option, Some, None, ap, refl, sym, ◌∙◌, if◌then◌else◌}
use Rattle.am_alert.specs.Made.{counts_fit}
use Rattle.am_api.specs.Replied.{Decision}
use Rattle.am_cluster.specs.Here.{Here}
use Rattle.am_cluster.specs.Local.{Local}
use Rattle.am_cluster.specs.Messages.{Put}
use Rattle.am_cluster.specs.Operating.{carry_out, finish, stamp, wait_with}
use Rattle.am_cluster.specs.Reactions.{Reaction, Replies, Said, says, where_some, ◌>>◌}
use Rattle.am_cluster.specs.Sending.{send_all}
use Rattle.am_context.proofs.Changes.{one_changes, other, own}
use Rattle.am_http.specs.Replies.{reply}
use Rattle.am_item.specs.Counts.{count_of}
use Rattle.am_node.specs.Accepting.{counted as counted_in_node}
use Rattle.am_node.specs.Held.{Makes as NodeMakes, local_of as local_in_node}
use Rattle.am_node.specs.Local.{Local as NodeLocal}
use Rattle.am_node.specs.declared.parts.Parts.{Parts}
use Rattle.am_quorum.specs.Dockets.{Changes, Docket, Ops, closed_in, docket_of, operations_of, waiting_in, with_operations as with_opened}
use Rattle.am_quorum.specs.Operations.{operation_at, staged, without_operation}
use Rattle.am_quorum.specs.declared.operation.Operation.{Operation}
use Rattle.am_quorum.specs.declared.operation.Stage.TheVariants.{Decided}
use Rattle.am_quorum.proofs.Deadlines.{number_at}
use Rattle.am_transfer.specs.Settling.{Settling}
use Rattle.am_transfer.specs.Tenants.{settling_of}
use Rattle.am_site.specs.Locals.{from_rooms, local_of}
use Rattle.am_site.specs.Reacting.{Does, Keeps, Makes, Reacts, said_in}
use Rattle.am_site.proofs.Reacting.{keeps_all}
use Rattle.am_tenant.specs.Names.{same}
use Rattle.am_site.specs.declared.said.Said.{Said as Spoken}
use Rattle.am_site.specs.declared.site.Site.{Site}

-- ---- one part of an instance changes

-- with other operations
abbrev pub with_ops : Site → Ops → Site
with_ops site ops = record { node = site.node; operations = ops; sent = site.sent; settling = site.settling; elsewhere = site.elsewhere }

-- .. with another node
abbrev pub with_node : Site → Parts → Site
with_node site node = record { node = node; operations = site.operations; sent = site.sent; settling = site.settling; elsewhere = site.elsewhere }

pub keeps_ops : (old : Site) (ops : Ops) → ops.incarnation ≡ old.operations.incarnation → Keeps old (with_ops old ops)
keeps_ops old ops kept = record { incarnation = kept; positions = λ t. refl; asked = λ t. refl; timed = λ timed. timed }

pub keeps_node : (old : Site) (node : Parts) → ((t : List ℕ) → (local_in_node t node).position ≡ (local_in_node t old.node).position) → Keeps old (with_node old node)
keeps_node old node positions = record { incarnation = refl; positions = positions; asked = λ t. refl; timed = λ timed. timed }

-- what leaves the position of its tenant leaves that of all
pub position_made : (tenant : List ℕ) (change : NodeLocal → NodeLocal) (old new : Parts) → ((l : NodeLocal) → (change l).position ≡ l.position)
    → NodeMakes tenant change old new → (t : List ℕ) → (local_in_node t new).position ≡ (local_in_node t old).position
position_made tenant change old new stays makes t = by (same t tenant) (makes t)
  where
    by : (b : Bool) → local_in_node t new ≡ (if b then change (local_in_node t old) else local_in_node t old) → (local_in_node t new).position ≡ (local_in_node t old).position
    by true is = ap (λ (l : NodeLocal). l.position) is ∙ stays (local_in_node t old)
    by false is = ap (λ (l : NodeLocal). l.position) is

pub docket_makes : (tenant : List ℕ) (change : Docket → Docket) (f : Local → Local) (old : Site) (ops : Ops) → Changes tenant change old.operations ops
    → f (local_of tenant old) ≡ from_rooms (local_in_node tenant old.node) (change (docket_of tenant old.operations)) (count_of tenant old.sent) (settling_of tenant old.settling.progress)
    → Makes tenant f old (with_ops old ops)
unfolding local_of
docket_makes tenant change f old ops changes is =
    one_changes tenant f (λ t. local_of t old) (λ t. local_of t (with_ops old ops))
    (ap (λ docket. from_rooms (local_in_node tenant old.node) docket (count_of tenant old.sent) (settling_of tenant old.settling.progress)) (own tenant _ _ _ (changes tenant)) ∙ sym is)
    (λ t apart. ap (λ docket. from_rooms (local_in_node t old.node) docket (count_of t old.sent) (settling_of t old.settling.progress)) (other t tenant _ _ _ apart (changes t)))

-- ---- an operation that is open

-- what is done where an operation is open is done with it
pub with_open : (f : Operation → Local → Reaction) (number : ℕ) (o : Operation) (l : Local) → operation_at number l.operations ≡ Some o
    → where_some f (operation_at number l.operations) l ≡ f o l
with_open f number o l is = ap (λ found. where_some f found l) is

-- one that isn't there can be taken out
pub none_to_close : (n : ℕ) (ops : List Operation) → operation_at n ops ≡ None → without_operation n ops ≡ ops
none_to_close n [] none = refl
none_to_close n (x ∷ xs) none = by_cases (x.number == n) refl (none_to_close n xs)
  where
    by_cases : (b : Bool) → (x.number == n) ≡ b → (operation_at n xs ≡ None → without_operation n xs ≡ xs) → without_operation n (x ∷ xs) ≡ x ∷ xs
    by_cases true h rest = absurd (let never : Some x ≡ None = rw h at none in cc)
    by_cases false h rest = rw h (ap (λ os. x ∷ os) (rest (rw h at none)))

-- what is said where it is over
abbrev pub said_closed : (reply : List ℕ) → Option Operation → List Said
said_closed reply None = []
said_closed reply (Some o) = Replies o.connection reply ∷ []

-- ---- the steps

-- the items that were made are counted
pub stamps : (tenant : List ℕ) (decision : Decision) (old : Site) (node : Parts) (more : ℕ) → more ≡ length decision.items
    → counts_fit decision.items ≡ true → NodeMakes tenant (counted_in_node more decision.drawn) old.node node
    → Does tenant (stamp decision) old (with_node old node)
unfolding local_of
stamps tenant decision old node more is fits makes = record {
  local = one_changes tenant (λ l. (stamp decision l).local) (λ t. local_of t old) (λ t. local_of t (with_node old node))
      (ap (λ n. from_rooms n (docket_of tenant old.operations) (count_of tenant old.sent) (settling_of tenant old.settling.progress)) (own tenant _ _ _ (makes tenant))
      ∙ ap (λ m. from_rooms (counted_in_node m decision.drawn (local_in_node tenant old.node)) (docket_of tenant old.operations) (count_of tenant old.sent) (settling_of tenant old.settling.progress)) is)
      (λ t apart. ap (λ n. from_rooms n (docket_of t old.operations) (count_of t old.sent) (settling_of t old.settling.progress)) (other t tenant _ _ _ apart (makes t)));
  said = refl;
  fits = fits;
  keeps = keeps_node old node (position_made tenant (counted_in_node more decision.drawn) old.node node (λ l. refl) makes);
}

-- the operations are those that were open
pub stamped_operations : (decision : Decision) (l : Local) → (stamp decision l).local.operations ≡ l.operations
stamped_operations decision l = refl

module _ (node : NodeLocal) (d : Docket) (n : ℕ) (g : Settling) (reply : List ℕ) where
  abbrev l : Local
  l = from_rooms node d n g

  waits_local : (found : Option Operation) → (where_some (wait_with reply) found l).local ≡ from_rooms node (with_opened (staged (Decided reply None) found) d) n g
  waits_local None = refl
  waits_local (Some o) = refl

  waits_said : (found : Option Operation) → (where_some (wait_with reply) found l).said ≡ []
  waits_said None = refl
  waits_said (Some o) = refl

  waits_fits : (found : Option Operation) → (where_some (wait_with reply) found l).fits ≡ true
  waits_fits None = refl
  waits_fits (Some o) = refl

  finishes_local : (number : ℕ) (found : Option Operation) → operation_at number d.operations ≡ found
      → (where_some (finish reply) found l).local ≡ from_rooms node (closed_in number d) n g
  unfolding finish
  finishes_local number None is =
      ap (λ ops. from_rooms node (record { used = d.used; operations = ops }) n g) (sym (none_to_close number d.operations is))
  finishes_local number (Some o) is =
      ap (λ m. from_rooms node (record { used = d.used; operations = without_operation m d.operations }) n g) (number_at number o d.operations is)

  finishes_said : (found : Option Operation) → (where_some (finish reply) found l).said ≡ said_closed reply found
  unfolding finish
  finishes_said None = refl
  finishes_said (Some o) = refl

  finishes_fits : (found : Option Operation) → (where_some (finish reply) found l).fits ≡ true
  unfolding finish
  finishes_fits None = refl
  finishes_fits (Some o) = refl

-- the reply waits
pub waits : (tenant reply : List ℕ) (number : ℕ) (old : Site) (ops : Ops) → Changes tenant (waiting_in reply number) old.operations ops
    → ops.incarnation ≡ old.operations.incarnation
    → Does tenant (λ l. where_some (wait_with reply) (operation_at number l.operations) l) old (with_ops old ops)
unfolding local_of
waits tenant reply number old ops changes kept =
    let node = local_in_node tenant old.node in
    let d = docket_of tenant old.operations in
    let n = count_of tenant old.sent in
    let g = settling_of tenant old.settling.progress in
    let found = operation_at number d.operations in
    record {
      local = docket_makes tenant (waiting_in reply number) (λ l. (where_some (wait_with reply) (operation_at number l.operations) l).local) old ops changes
          (waits_local node d n g reply found);
      said = waits_said node d n g reply found;
      fits = waits_fits node d n g reply found;
      keeps = keeps_ops old ops kept;
    }

-- it goes out
pub finishes : (tenant reply : List ℕ) (number : ℕ) (old : Site) (ops : Ops) (x y : List Spoken) (found : Option Operation)
    → operation_at number (operations_of tenant old.operations) ≡ found → Changes tenant (closed_in number) old.operations ops
    → ops.incarnation ≡ old.operations.incarnation → map said_in y ≡ map said_in x ++ said_closed reply found
    → Reacts tenant (λ l. where_some (finish reply) (operation_at number l.operations) l) old (with_ops old ops) x y
unfolding local_of
finishes tenant reply number old ops x y found is changes kept said =
    let node = local_in_node tenant old.node in
    let d = docket_of tenant old.operations in
    let n = count_of tenant old.sent in
    let g = settling_of tenant old.settling.progress in
    let there = operation_at number d.operations in
    record {
      local = docket_makes tenant (closed_in number) (λ l. (where_some (finish reply) (operation_at number l.operations) l).local) old ops changes
          (finishes_local node d n g reply number there refl);
      said = said ∙ ap (λ o. map said_in x ++ said_closed reply o) (sym is) ∙ ap (λ out. map said_in x ++ out) (sym (finishes_said node d n g reply there));
      fits = finishes_fits node d n g reply there;
      keeps = keeps_ops old ops kept;
    }

-- ---- all of it

module _ (here : Here) (o : Operation) (decision : Decision) where
  pub carries_reply : (l : Local) → (length decision.items == 0) ≡ true
      → (stamp decision >> finish (reply decision.status decision.body) o) l ≡ carry_out here o decision l
  unfolding carry_out
  carries_reply l none = rw none refl

  pub carries_items : (l : Local) → (length decision.items == 0) ≡ false
      → (stamp decision >> (wait_with (reply decision.status decision.body) o >> send_all o.epoch here here.three (Put o.number decision.items))) l ≡ carry_out here o decision l
  unfolding carry_out
  carries_items l some = rw some refl

-- one thing is said
pub says_one : (tenant : List ℕ) (word : Said) (site : Site) (x y : List Spoken) → map said_in y ≡ map said_in x ++ word ∷ [] → Reacts tenant (says word) site site x y
says_one tenant word site x y is = record {
  local = one_changes tenant (λ l. l) (λ t. local_of t site) (λ t. local_of t site) refl (λ t apart. refl);
  said = is;
  fits = refl;
  keeps = keeps_all site;
}
