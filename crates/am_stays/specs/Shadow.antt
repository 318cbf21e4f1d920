-- The private cluster of a tenant as one key sees it: instances by number, epochs, incarnations, and what was ever
-- sent. An item is told by its stamp, a list of items by the greatest stamp of the key in it, 0 where it has none. A
-- request is told by its number, the write that its decision makes by its stamp.
use Rattle.std.specs.Prelude.{ℕ, suc, max, Bool, true, false, not, ◌&&◌, ◌||◌, if◌then◌else◌, ◌==◌}
use Rattle.am_stays.specs.Places.{Place, First, Second, Third, same}

pub record Shadow : Type 0 where
  -- rings: an epoch is one ring, an era lies between two changes of the tenant's three replicas
  pub present : ℕ  -- the present epoch
  pub era_of : ℕ → ℕ  -- the era of an epoch: how often the three changed up to it
  pub member : (era : ℕ) → Place → ℕ  -- the three replicas of an era, by place
  -- instances
  pub known : ℕ → ℕ  -- the epoch by which an instance goes; of one that is down, went
  pub incarnation : ℕ → ℕ  -- its incarnation
  pub up : ℕ → Bool
  pub settled : ℕ → Bool
  pub held : ℕ → ℕ  -- the greatest stamp of the key that it holds
  pub outlived : ℕ  -- the greatest stamp that any instance dropped at its retirement
  -- requests
  pub asked : ℕ → Bool  -- request n came in, and its Gets went out
  pub epoch : ℕ → ℕ  -- in this epoch
  pub undecided : ℕ → Bool  -- it is neither decided nor refused
  pub before : (n x : ℕ) → Bool  -- write x was acknowledged when request n came in
  pub answer : (n j v : ℕ) → Bool  -- instance j ever answered request n with stamp v
  -- writes
  pub put : ℕ → Bool  -- the Puts of write x went out
  pub by : ℕ → ℕ  -- the request that made it
  pub waiting : ℕ → Bool  -- it is neither acknowledged nor refused
  pub ack : (x j : ℕ) → Bool  -- instance j ever sent an Ack of write x
  pub acknowledged : ℕ → Bool  -- the client was told that write x was made
  -- the list that instance j cut in epoch e for incarnation m of instance r: what it held then, sent in pieces
  pub cut : (j e r m : ℕ) → Bool  -- there is one
  pub list : (j e r m : ℕ) → ℕ  -- the stamp of the key in it
  pub pieces : (j e r m : ℕ) → ℕ  -- how many pieces it has
  pub piece : (j e r m : ℕ) → ℕ  -- the piece that has the key; any, where none has it
  pub taken : (r j p : ℕ) → Bool  -- instance r took piece p of the list of j for its epoch and incarnation

-- instance j is one of these three
abbrev pub is_member : (Place → ℕ) → (j : ℕ) → Bool
is_member members j = (members First == j) || ((members Second == j) || (members Third == j))

-- .. of an era
abbrev pub has_place : Shadow → (era j : ℕ) → Bool
has_place s era j = is_member (s.member era) j

-- who has a place in an era is up and settled, and goes by it
abbrev pub is_ready : Shadow → (era : ℕ) → Place → Bool
is_ready s era q =
    s.up (s.member era q) && (s.settled (s.member era q) && (s.era_of (s.known (s.member era q)) == era))

-- all three are
abbrev pub is_calm : Shadow → (era : ℕ) → Bool
is_calm s era = is_ready s era First && (is_ready s era Second && is_ready s era Third)

-- A request comes to an instance that goes by epoch e.
abbrev pub after_request : Shadow → ℕ → ℕ → Shadow
after_request s n e =
    record s {
      asked = λ m. (m == n) || s.asked m;
      epoch = λ m. if m == n then e else s.epoch m;
      undecided = λ m. (m == n) || s.undecided m;
      before = λ m x. if m == n then s.acknowledged x else s.before m x;
    }

-- Its Get comes to instance j, which answers with what it holds.
abbrev pub after_get : Shadow → ℕ → ℕ → Shadow
after_get s n j = record s { answer = λ m k u. ((m == n) && ((k == j) && (u == s.held j))) || s.answer m k u }

-- It is decided, and makes write x.
abbrev pub after_write : Shadow → ℕ → ℕ → Shadow
after_write s n x =
    record s {
      undecided = λ m. not (m == n) && s.undecided m;
      put = λ y. (y == x) || s.put y;
      by = λ y. if y == x then n else s.by y;
      waiting = λ y. (y == x) || s.waiting y;
    }

-- Its Put comes to instance j, which takes the item and sends an Ack.
abbrev pub after_put : Shadow → ℕ → ℕ → Shadow
after_put s x j =
    record s {
      held = λ k. if k == j then max (s.held j) x else s.held k;
      ack = λ y k. ((y == x) && (k == j)) || s.ack y k;
    }

-- The client is told that the write was made.
abbrev pub after_reply : Shadow → ℕ → Shadow
after_reply s x =
    record s { waiting = λ y. not (y == x) && s.waiting y; acknowledged = λ y. (y == x) || s.acknowledged y }

-- A request ends without a write: it is refused, or its decision makes no item of the key.
abbrev pub after_refuse : Shadow → ℕ → Shadow
after_refuse s n = record s { undecided = λ m. not (m == n) && s.undecided m }

-- A write ends unacknowledged.
abbrev pub after_close : Shadow → ℕ → Shadow
after_close s x = record s { waiting = λ y. not (y == x) && s.waiting y }

-- Instance j takes an item that no operation sent it: a row of its store, a sent entry, one of a list.
abbrev pub after_accept : Shadow → ℕ → ℕ → Shadow
after_accept s j x = record s { held = λ k. if k == j then max (s.held j) x else s.held k }

-- It drops the key at its retirement.
abbrev pub after_retire : Shadow → ℕ → Shadow
after_retire s j = record s { held = λ k. if k == j then 0 else s.held k; outlived = max s.outlived (s.held j) }

-- Names the list that j now cuts for r: of its own epoch, for the present incarnation of r.
abbrev pub is_list : Shadow → (j r : ℕ) → (k e l m : ℕ) → Bool
is_list s j r k e l m = (k == j) && ((e == s.known j) && ((l == r) && (m == s.incarnation r)))

-- Instance j cuts it, into so many pieces, of which one has the key.
abbrev pub after_cut : Shadow → ℕ → ℕ → ℕ → ℕ → Shadow
after_cut s j r pieces piece =
    record s {
      cut = λ k e l m. is_list s j r k e l m || s.cut k e l m;
      list = λ k e l m. if is_list s j r k e l m then s.held j else s.list k e l m;
      pieces = λ k e l m. if is_list s j r k e l m then pieces else s.pieces k e l m;
      piece = λ k e l m. if is_list s j r k e l m then piece else s.piece k e l m;
    }

-- Piece p of j's list comes to r, which accepts what stands in it.
abbrev pub after_piece : Shadow → ℕ → ℕ → ℕ → Shadow
after_piece s j r p =
    record s {
      held = λ k.
          if (p == s.piece j (s.known r) r (s.incarnation r)) && (k == r)
          then max (s.held r) (s.list j (s.known r) r (s.incarnation r))
          else s.held k;
      taken = λ k l o. ((k == r) && ((l == j) && (o == p))) || s.taken k l o;
    }

abbrev pub after_settle : Shadow → ℕ → Shadow
after_settle s r = record s { settled = λ k. (k == r) || s.settled k }

-- Instance j stops being one of the three as it goes on to the next epoch.
abbrev pub drops : Shadow → ℕ → Bool
drops s j = has_place s (s.era_of (s.known j)) j && not (has_place s (s.era_of (suc (s.known j))) j)

-- It goes on to that, and where it stops being one of the three it drops what it holds. Whose pieces it took it
-- forgets.
abbrev pub after_learn : Shadow → ℕ → Shadow
after_learn s j =
    record s {
      known = λ k. if k == j then suc (s.known j) else s.known k;
      held = λ k. if (k == j) && drops s j then 0 else s.held k;
      settled = λ k. not ((k == j) && drops s j) && s.settled k;
      taken = λ k l p. not (k == j) && s.taken k l p;
    }

-- Epoch e begins, in which the three stay.
abbrev pub after_epoch : Shadow → ℕ → ℕ → Shadow
after_epoch s era e = record s { present = e; era_of = λ f. if f == e then era else s.era_of f }

-- Instance i joins with epoch e, and gets place r.
abbrev pub after_join : Shadow → ℕ → Place → ℕ → ℕ → Shadow
after_join s era r i e =
    record s {
      present = e;
      era_of = λ f. if f == e then suc era else s.era_of f;
      member = λ g q. if g == suc era then (if same q r then i else s.member era q) else s.member g q;
      known = λ k. if k == i then e else s.known k;
      incarnation = λ k. if k == i then suc (s.incarnation i) else s.incarnation k;
      held = λ k. if k == i then 0 else s.held k;
      up = λ k. (k == i) || s.up k;
      settled = λ k. not (k == i) && s.settled k;
      taken = λ k l p. not (k == i) && s.taken k l p;
    }

-- Who has place r leaves with epoch e, and i gets the place, up or down.
abbrev pub after_leave : Shadow → ℕ → Place → ℕ → ℕ → Shadow
after_leave s era r i e =
    record s {
      present = e;
      era_of = λ f. if f == e then suc era else s.era_of f;
      member = λ g q. if g == suc era then (if same q r then i else s.member era q) else s.member g q;
      up = λ k. not (k == s.member era r) && s.up k;
    }

abbrev pub after_crash : Shadow → ℕ → Shadow
after_crash s j =
    record s {
      held = λ k. if k == j then 0 else s.held k;
      up = λ k. not (k == j) && s.up k;
      settled = λ k. not (k == j) && s.settled k;
      taken = λ k l p. not (k == j) && s.taken k l p;
    }

-- One that is none of the three comes up by epoch e: a restart, or a join that leaves them as they are.
abbrev pub after_rise : Shadow → ℕ → ℕ → Shadow
after_rise s j e =
    record s {
      known = λ k. if k == j then e else s.known k;
      incarnation = λ k. if k == j then suc (s.incarnation j) else s.incarnation k;
      held = λ k. if k == j then 0 else s.held k;
      up = λ k. (k == j) || s.up k;
      settled = λ k. not (k == j) && s.settled k;
      taken = λ k l p. not (k == j) && s.taken k l p;
    }

-- One of the three is restarted in epoch e. The open operations of their era are refused.
abbrev pub after_restart : Shadow → ℕ → ℕ → Shadow
after_restart s j e =
    record s {
      known = λ k. if k == j then e else s.known k;
      incarnation = λ k. if k == j then suc (s.incarnation j) else s.incarnation k;
      held = λ k. if k == j then 0 else s.held k;
      up = λ k. (k == j) || s.up k;
      settled = λ k. not (k == j) && s.settled k;
      undecided = λ n. not (s.era_of (s.epoch n) == s.era_of e) && s.undecided n;
      waiting = λ x. not (s.era_of (s.epoch (s.by x)) == s.era_of e) && s.waiting x;
      taken = λ k l p. not (k == j) && s.taken k l p;
    }

-- All instances stop, and start again with the ring as it was, each of the three with what it stored. Epochs are
-- counted on.
abbrev pub after_stop : Shadow → ℕ → ℕ → Shadow
after_stop s era e =
    record s {
      present = e;
      era_of = λ f. if f == e then era else s.era_of f;
      known = λ k. e;
      incarnation = λ k. suc (s.incarnation k);
      held = λ k. if has_place s era k then s.held k else 0;
      up = λ k. true;
      settled = λ k. has_place s era k;
      undecided = λ n. false;
      waiting = λ x. false;
      taken = λ k l p. false;
    }

-- All are up and go by epoch 0. The three are settled, whatever each holds, and no other holds anything; nothing was
-- asked.
abbrev pub shadow_start : (Place → ℕ) → (ℕ → ℕ) → Shadow
shadow_start members held =
    record {
      present = 0;
      era_of = λ f. 0;
      member = λ g. members;
      known = λ k. 0;
      incarnation = λ k. 0;
      up = λ k. true;
      settled = λ k. is_member members k;
      held = λ k. if is_member members k then held k else 0;
      outlived = 0;
      asked = λ n. false;
      epoch = λ n. 0;
      undecided = λ n. false;
      before = λ n x. false;
      answer = λ n j v. false;
      put = λ x. false;
      by = λ x. 0;
      waiting = λ x. false;
      ack = λ x j. false;
      acknowledged = λ x. false;
      cut = λ j e r m. false;
      list = λ j e r m. 0;
      pieces = λ j e r m. 0;
      piece = λ j e r m. 0;
      taken = λ r j p. false;
    }
