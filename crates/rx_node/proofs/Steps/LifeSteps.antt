-- A node mirrors what becomes of look-ups where the life of a call changes.
use Rattle.std.proofs.Common.{◌≡◌, ◌+◌, ◌/◌, ◌%◌, ℕ, true, List, length}
use Rattle.std.proofs.Common.{Option, Some, None, option_map, refl, ◌∙◌, ap, sym, subst, arith}
use Rattle.std.specs.Prelude.{slice_get, is_some}
use Rattle.rx_model.specs.Names.{Channel}
use Rattle.rx_rules.specs.CallLooks.{CallLooks}
use Rattle.rx_rules.specs.Classes.{Class}
use Rattle.rx_rules.specs.Life.{Life, is_active, is_live}
use Rattle.rx_rules.specs.Looks.{CallRecord, ChannelLooks, Looks, channel_at, is_call, latest, latest_name, on_life}
use Rattle.rx_rules.specs.Setup.{is_client}
use Rattle.rx_rules.specs.Slots.{beside, common, live}
use Rattle.rx_rules.proofs.CallsLaws.{call_at-on_call, changed_if}
use Rattle.rx_history.proofs.Dimensions.Dims.{dims_life}
use Rattle.rx_history.proofs.LifeFalls.{Falls}
use Rattle.rx_history.proofs.OneCall.{common_one, live_one, life_of}
use Rattle.rx_history.proofs.Order.Orderly.{orderly_dims}
use Rattle.rx_history.proofs.Room.RoomStarts.{roomy_life}
use Rattle.rx_table.specs.declared.seat.Seat.{Seat}
use Rattle.rx_table.specs.Records.{ConnRecord, Records, record_at, seat_at}
use Rattle.rx_node.specs.declared.life.Life.{Life as CodeLife}
use Rattle.rx_model.specs.declared.answers.End.{End}
use Rattle.rx_node.specs.Lives.{life_of as life_of_code}
use Rattle.rx_call_ends.specs.Ends.{EndsState, StandsEnd}
use Rattle.rx_node.specs.Mirrors.{ChannelStands, ConnsStand, IsChannel, Mirrors, OwesAs, channel_in}
use Rattle.rx_node.specs.Node.{IsSeated, NodeState, life_by, setup_of}
use Rattle.rx_node.proofs.Steps.ChannelSteps.{latest_changed, latest_stays}
use Rattle.rx_node.proofs.Steps.EndSteps.{names_apart}
use Rattle.rx_node.proofs.Steps.OwingSteps.{one_channel}
use Rattle.rx_node.proofs.Steps.TableSteps.{FromRecord, decided}

-- another table, with another seat at a key at most
pub record Seats (t new : Records) (key : ℕ) (after : Seat) : Type 0 where
  pub own : seat_at new key ≡ Some after
  pub others : (k : ℕ) → (key ≡ k → ⊥) → seat_at new k ≡ seat_at t k
  pub records : (place : ℕ) (b : ConnRecord) → record_at new place ≡ Some b → FromRecord t place b
  pub count : length new.conns ≡ length t.conns

-- what a node keeps of a call whose life changes, at its seat before and after
pub record Lives (n : NodeState) (key : ℕ) (seat after : Seat) (k : CallRecord) (new : Life) (table : Records)
    (ends : EndsState) (lives : List CodeLife) (count : ℕ) : Type 0 where
  pub seats : Seats n.table table key after
  pub owes : (q : ChannelLooks) → OwesAs seat q → OwesAs after q
  pub life : life_by lives (is_client n.kind) key after.live after.«end» ≡ Some new
  pub named : is_some after.live ≡ is_live new
  pub stands : (end : ℕ) → after.live ≡ Some end → is_active new ≡ true → StandsEnd ends end k.looks
  pub others : (j : ℕ) → (key ≡ j → ⊥) → slice_get lives j ≡ slice_get n.lives j
  pub aside : (end : ℕ) (looks : CallLooks) → (seat.live ≡ Some end → ⊥) → StandsEnd n.ends end looks
      → StandsEnd ends end looks
  pub common : ends.common + beside k ≡ n.ends.common + beside (record k { life = new })
  pub counted : count + life_of k ≡ n.live + life_of (record k { life = new })

module _ (class : List ℕ → Class) (n : NodeState) (l : Looks) (m : Mirrors class n l) (seated : IsSeated n)
    (key : ℕ) (ch : Channel) (at : IsChannel l key ch) (seat after : Seat) (there : seat_at n.table key ≡ Some seat)
    (k : CallRecord) (latest_is : latest l ch ≡ Some k) (f : Life → Life) (falls : (x : Life) → Falls x (f x))
    (table : Records) (ends : EndsState) (lives : List CodeLife) (count : ℕ)
    (by : Lives n key seat after k (f k.life) table ends lives count) where
  abbrev next : NodeState
  next = record n { table = table; ends = ends; lives = lives; live = count }

  abbrev change : CallRecord → CallRecord
  change j = record j { life = f j.life }

  abbrev made : Looks
  made = on_life (latest_name l ch) f l

  life-common : ends.common ≡ common made
  life-common =
      let one : common made + beside k ≡ common l + beside (change k) =
      common_one (latest_name l ch) change l k m.roomy.differ latest_is in
      let two = by.common in
      let before = m.common in
      omega arith

  life-live : count ≡ live made
  life-live =
      let one : live made + life_of k ≡ live l + life_of (change k) =
      live_one (latest_name l ch) change l k m.roomy.differ latest_is in
      let two = by.counted in
      let before = m.live in
      omega arith

  life-conns : ConnsStand next made
  life-conns =
      record {
        conns = by.seats.count ∙ m.conns.conns;
        links = m.conns.links;
        each = λ place r link x here linked conn. (
            let b = by.seats.records place r here in
            let s = m.conns.each place b.before link x b.there linked conn in
            record {
              connection = b.same.connection ∙ s.connection;
              nonce = b.same.nonce ∙ s.nonce;
              serial = b.same.serial ∙ s.serial;
              last_use = b.same.last_use ∙ s.last_use;
              proved = b.same.proved ∙ s.proved;
              seats = b.same.seats ∙ s.seats;
              linked = s.linked;
            });
      }

  life-own : (d : Channel) (s : Seat) → IsChannel l key d → seat_at table key ≡ Some s
      → ChannelStands next made key d s
  life-own d s here is =
      let one : ch ≡ d = one_channel class n l m key ch d at here in
      let same : after ≡ s = (let both = sym by.seats.own ∙ is in cc (both)) in
      let was = m.channels key ch seat at there in
      let found : latest made ch ≡ Some (change k) =
      latest_changed l ch (latest_name l ch) change (λ j. refl) refl ∙ ap (option_map change) latest_is in
      subst (λ (c : Channel). ChannelStands next made key c s) one
      (subst (λ (t : Seat). ChannelStands next made key ch t) same
      (record {
        owes = by.owes (channel_at l ch) was.owes;
        call = record {
          life = by.life ∙ sym (ap (option_map (λ j. j.life)) found);
          live = by.named ∙ sym (ap (is_call (λ j. is_live j.life)) found);
          stands = λ q c names call lives. (
              let is : change k ≡ c = (let both = sym found ∙ call in cc (both)) in
              subst (λ (j : CallRecord). StandsEnd ends q j.looks) is
              (by.stands q names (subst (λ (j : CallRecord). is_active j.life ≡ true) (sym is) lives)));
        };
      }))

  life-other : (j : ℕ) (d : Channel) (s : Seat) → (key ≡ j → ⊥) → IsChannel l j d → seat_at table j ≡ Some s
      → ChannelStands next made j d s
  life-other j d s apart here is =
      let is_before : seat_at n.table j ≡ Some s = sym (by.seats.others j apart) ∙ is in
      let was = m.channels j d s here is_before in
      let same : latest made d ≡ latest l d =
      latest_stays l d (latest_name l ch) change (λ i. refl) (names_apart class n l m key j ch d at here apart) in
      record {
        owes = was.owes;
        call = record {
          life = lives-aside s.live s.«end» ∙ was.call.life ∙ ap (option_map (λ i. i.life)) (sym same);
          live = was.call.live ∙ ap (is_call (λ i. is_live i.life)) (sym same);
          stands = λ q c names call active.
              by.aside q c.looks (λ one. apart (seated.apart key j seat s q there is_before one names))
              (was.call.stands q c names (sym same ∙ call) active);
        };
      }
    where
      lives-aside : (o : Option ℕ) (e : Option End)
          → life_by lives (is_client n.kind) j o e ≡ life_by n.lives (is_client n.kind) j o e
      lives-aside (Some end) e = ap (option_map life_of_code) (by.others j apart)
      lives-aside None e = refl

  -- it mirrors the change
  pub mirrors_life : Mirrors class next made
  mirrors_life =
      record {
        now = m.now;
        conns = life-conns;
        channels = λ j d s here is.
            decided (ChannelStands next made j d s) key j
            (λ same. subst (λ (i : ℕ). ChannelStands next made i d s) same
            (life-own d s (record {
              conn = here.conn;
              there = subst (λ (i : ℕ). slice_get l.conns (i / 4) ≡ Some here.conn) (sym same) here.there;
              is = subst (λ (i : ℕ). d ≡ channel_in here.conn (i % 4)) (sym same) here.is;
            })
            (subst (λ (i : ℕ). seat_at table i ≡ Some s) (sym same) is)))
            (λ apart. life-other j d s apart
            (record { conn = here.conn; there = here.there; is = here.is }) is);
        live = life-live;
        common = life-common;
        strays = m.strays;
        numbered = λ c zero. (call_at-on_call c (latest_name l ch) change l (λ j. refl)
            ∙ ap (option_map (changed_if (latest_name l ch) change)) (m.numbered c zero));
        orderly = orderly_dims (setup_of class n) l made (dims_life (latest_name l ch) f l falls) m.orderly;
        roomy = roomy_life (setup_of class n) (latest_name l ch) f l falls m.roomy;
      }
