-- A node mirrors what becomes of look-ups where the life of a channel's latest call becomes another, by what that is.
use Rattle.std.proofs.Common.{◌≡◌, ◌+◌, ◌-◌, ◌/◌, ◌%◌, ◌&&◌, ◌||◌, ℕ, Bool, true, false, not, List, set, if◌then◌else◌}
use Rattle.std.proofs.Common.{Option, Some, None, option_map, refl, ◌∙◌, ap, sym, subst, arith}
use Rattle.std.specs.Prelude.{IsSomeAnd, is_some, slice_get}
use Rattle.std.proofs.lemmas.Bool.{false≢true}
use Rattle.std.proofs.lemmas.List.{length-set}
use Rattle.rx_model.specs.declared.answers.End.{End}
use Rattle.rx_model.specs.Names.{Channel}
use Rattle.rx_rules.specs.CallLooks.{CallLooks}
use Rattle.rx_rules.specs.Classes.{Class}
use Rattle.rx_rules.specs.Life.{Life, is_active, is_calling, is_live, is_waiting}
use Rattle.rx_rules.specs.Life as lives
use Rattle.rx_rules.specs.Looks.{CallRecord, Looks, latest, latest_name, on_life}
use Rattle.rx_rules.specs.Setup.{is_client}
use Rattle.rx_rules.specs.Slots.{beside}
use Rattle.rx_history.proofs.LifeFalls.{Falls, falls_refl, is_begun}
use Rattle.rx_table.specs.declared.seat.Seat.{Seat}
use Rattle.rx_table.specs.Records.{Records, names, seat_at, with_seat}
use Rattle.rx_call.specs.Kept.{call_under, live_count}
use Rattle.rx_call.specs.Standing.{EndOfCall, IsIdle}
use Rattle.rx_call_ends.specs.Ends.{EndsState, IsIdleAt, KeepsEnds, StandsEnd, beside_looks}
use Rattle.rx_node.specs.declared.life.Life.{Life as CodeLife}
use Rattle.rx_node.specs.Lives.{end_of, ended_life, is_of, life_of}
use Rattle.rx_node.specs.Mirrors.{ChannelStands, IsChannel, Mirrors}
use Rattle.rx_node.specs.Node.{IsSeated, IsSetUp, KeepsNode, NodeState, is_active_life, life_by}
use Rattle.rx_node.proofs.CallChanges.{same_change}
use Rattle.rx_node.proofs.KeptNode.{names-changed}
use Rattle.rx_node.proofs.Steps.LifeSteps.{Lives, mirrors_life}
use Rattle.rx_node.proofs.Steps.SeatedSteps.{one_seat, reseated, same_end, same_records, set_up_alike}
use Rattle.rx_node.proofs.Steps.TableSteps.{changed-length, record_seated, seat_changed, seat_stays, seated, set-other}
use Rattle.rx_node.proofs.Steps.TableSteps.{set-own}
use Rattle.rx_node.proofs.LifeLaws.{live_if_active}

-- ---- lives

-- a life that ended is known again by its end
pub ended_again : (client : Bool) (x : Life) → is_live x ≡ false → is_of client x ≡ true
    → ended_life client (end_of x) ≡ x
ended_again client lives.Calling ended of = absurd (cc (ended))
ended_again client lives.Waiting ended of = absurd (cc (ended))
ended_again client lives.Accepted ended of = absurd (cc (ended))
ended_again client lives.Finished ended of = absurd (cc (ended))
ended_again client (lives.Broken code) ended of = absurd (cc (ended))
ended_again true (lives.Ended end) ended of = refl
ended_again false (lives.Ended end) ended of = absurd (cc (of))
ended_again true (lives.Over code) ended of = absurd (cc (of))
ended_again false (lives.Over (Some code)) ended of = refl
ended_again false (lives.Over None) ended of = refl

-- ---- a life that falls to another, where it can

implied : (a b : Bool) → (not a || b) ≡ true → a ≡ true → b ≡ true
implied true b holds is = holds
implied false b holds is = absurd (cc (is))

implies : (a b : Bool) → (a ≡ true → b ≡ true) → (not a || b) ≡ true
implies true b then_ = then_ refl
implies false b then_ = refl

all-five : (a b c d e : Bool) → (a && (b && (c && (d && e)))) ≡ true
    → (a ≡ true) × (b ≡ true) × (c ≡ true) × (d ≡ true) × (e ≡ true)
all-five true true true true true is = (refl, refl, refl, refl, refl)
all-five true true true true false is = absurd (cc (is))
all-five true true true false e is = absurd (cc (is))
all-five true true false d e is = absurd (cc (is))
all-five true false c d e is = absurd (cc (is))
all-five false b c d e is = absurd (cc (is))

-- whether it can
abbrev can_fall : Life → Life → Bool
can_fall new x =
    (not (is_live new) || is_live x)
    && ((not (is_active new) || is_active x)
    && ((not (is_begun new) || is_begun x)
    && ((not (is_calling new) || is_calling x) && (not (is_waiting new) || is_waiting x))))

abbrev pub falls_to : Life → Life → Life
falls_to new x = if can_fall new x then new else x

pub to_falls : (new x : Life) → Falls x (falls_to new x)
to_falls new x =
    (elim (can_fall new x) as (λ b. can_fall new x ≡ b → Falls x (if b then new else x)) [
      | true ↦ λ is. (
          let all = all-five (not (is_live new) || is_live x) (not (is_active new) || is_active x)
          (not (is_begun new) || is_begun x) (not (is_calling new) || is_calling x)
          (not (is_waiting new) || is_waiting x) is in
          record {
            live = implied (is_live new) (is_live x) all.0;
            active = implied (is_active new) (is_active x) all.1;
            begun = implied (is_begun new) (is_begun x) all.2;
            calling = implied (is_calling new) (is_calling x) all.3;
            waiting = implied (is_waiting new) (is_waiting x) all.4;
          })
      | false ↦ λ is. falls_refl x
    ]) refl

pub to_is : (new x : Life) → Falls x new → falls_to new x ≡ new
to_is new x falls =
    rw (
      implies (is_live new) (is_live x) falls.live,
      implies (is_active new) (is_active x) falls.active,
      implies (is_begun new) (is_begun x) falls.begun,
      implies (is_calling new) (is_calling x) falls.calling,
      implies (is_waiting new) (is_waiting x) falls.waiting,
    ) refl

-- ---- what an end that isn't active holds

if-false : (b : Bool) (n : ℕ) → b ≡ false → (if b then n else 0) ≡ 0
if-false b n is = ap (λ (c : Bool). if c then n else 0) is

if-true : (b : Bool) (n : ℕ) → b ≡ true → (if b then n else 0) ≡ n
if-true b n is = ap (λ (c : Bool). if c then n else 0) is

-- the parts of a change of a channel's latest call that lives
pub record Change (class : List ℕ → Class) (n : NodeState) (l : Looks) (key end : ℕ) (ch : Channel) (seat : Seat)
    (k : CallRecord) : Type 0 where
  pub mirrors : Mirrors class n l
  pub channel : IsChannel l key ch
  pub there : seat_at n.table key ≡ Some seat
  pub names : seat.live ≡ Some end
  pub latest_is : latest l ch ≡ Some k
  pub live : is_live k.life ≡ true

module _ (class : List ℕ → Class) (n : NodeState) (set_up : IsSetUp class n) (seats : IsSeated n) (key end : ℕ)
    (seat : Seat) (there : seat_at n.table key ≡ Some seat) (names_end : seat.live ≡ Some end) (code : CodeLife)
    (before : CodeLife) (had : slice_get n.lives key ≡ Some before) where
  abbrev pub coded : List CodeLife
  coded = set n.lives key code

  own-code : slice_get coded key ≡ Some code
  own-code = set-own n.lives key before code had

  other-code : (j : ℕ) → (key ≡ j → ⊥) → slice_get coded j ≡ slice_get n.lives j
  other-code j apart = set-other n.lives key j code apart

  its-life : (o : Option ℕ) (e : Option End) → o ≡ Some end
      → life_by coded (is_client n.kind) key o e ≡ Some (life_of code)
  its-life None e is = absurd (cc (is))
  its-life (Some q) e is = ap (option_map life_of) own-code

  one-end : (s : Seat) (q : ℕ) → seat_at n.table key ≡ Some s → s.live ≡ Some q → end ≡ q
  one-end s q is names = same_end end q seat s (one_seat n.table key seat s there is) names_end names

  free : (k : ℕ) (s : Seat) → (key ≡ k → ⊥) → seat_at n.table k ≡ Some s → s.live ≡ Some end → ⊥
  free k s apart is names = apart (seats.apart key k seat s end there is names_end names)

  -- ---- the life alone

  abbrev pub lived : NodeState
  lived = record n { lives = coded }

  pub lived_set_up : IsSetUp class lived
  lived_set_up =
      set_up_alike class n n.table n.ends coded n.live
      (record {
        room = refl;
        conns = refl;
        lives = length-set n.lives key code;
        client = refl;
        calls = refl;
        pace = refl;
        shared = refl;
      }) set_up

  module _ (of_kind : is_of (is_client n.kind) (life_of code) ≡ true) where
    own-kind : (life : CodeLife) → slice_get coded key ≡ Some life → is_of (is_client n.kind) (life_of life) ≡ true
    own-kind life its =
        (let same : code ≡ life = (let both = sym own-code ∙ its in cc (both)) in
        subst (λ (c : CodeLife). is_of (is_client n.kind) (life_of c) ≡ true) same of_kind)

    pub lived_seated : is_active (life_of code) ≡ true → IsSeated lived
    lived_seated active =
        reseated n key end n.table n.ends coded n.live
        (record {
          others = λ k apart. refl;
          records = same_records n.table;
          ends_stay = λ q apart. refl;
          lives_stay = other-code;
          free = free;
          names = one-end;
          there = λ s q is names. seats.there key seat end there names_end;
          idle = λ s q is names inactive.
              absurd (false≢true (sym inactive
              ∙ ap (λ (o : Option CodeLife). is_active_life (option_map life_of o)) own-code
              ∙ active));
          kinds = λ s q life is names its. own-kind life its;
          count = seats.count;
        }) seats

    -- ---- its end gives its slots back

    module _ (e : EndsState) (keeps : KeepsEnds n.ends e end) (idle : IsIdleAt e end)
        (count : live_count e.calls ≡ live_count n.ends.calls) where
      abbrev pub cleared : NodeState
      cleared = record n { ends = e; lives = coded }

      pub cleared_set_up : IsSetUp class cleared
      cleared_set_up =
          set_up_alike class n n.table e coded n.live
          (record {
            room = refl;
            conns = refl;
            lives = length-set n.lives key code;
            client = keeps.client;
            calls = keeps.others.room;
            pace = keeps.others.pace;
            shared = keeps.shared;
          }) set_up

      there-if-idle : (o : Option EndOfCall) → IsSomeAnd o IsIdle → is_some o ≡ true
      there-if-idle None is = absurd is
      there-if-idle (Some c) is = refl

      pub cleared_seated : IsSeated cleared
      cleared_seated =
          reseated n key end n.table e coded n.live
          (record {
            others = λ k apart. refl;
            records = same_records n.table;
            ends_stay = keeps.others.others;
            lives_stay = other-code;
            free = free;
            names = one-end;
            there = λ s q is names. there-if-idle (call_under e.calls end) idle;
            idle = λ s q is names inactive. idle;
            kinds = λ s q life is names its. own-kind life its;
            count = count ∙ seats.count;
          }) seats

      -- ---- its call leaves its channel

      module _ (f : EndsState) (left : KeepsEnds e f end) (gone : call_under f.calls end ≡ None)
          (fewer : live_count f.calls + 1 ≡ live_count e.calls) where
        abbrev pub after : Seat
        after = record seat { live = None; «end» = Some (end_of (life_of code)) }

        abbrev pub over : NodeState
        over = record n { table = with_seat n.table key after; ends = f; lives = coded; live = n.live - 1 }

        pub over_set_up : IsSetUp class over
        over_set_up =
            set_up_alike class n (with_seat n.table key after) f coded (n.live - 1)
            (record {
              room = refl;
              conns = changed-length n.table.conns (key / 4) (seated (key % 4) after);
              lives = length-set n.lives key code;
              client = left.client ∙ keeps.client;
              calls = left.others.room ∙ keeps.others.room;
              pace = left.others.pace ∙ keeps.others.pace;
              shared = left.shared ∙ keeps.shared;
            }) set_up

        no-name : (s : Seat) (q : ℕ) → seat_at (with_seat n.table key after) key ≡ Some s → s.live ≡ Some q → ⊥
        no-name s q is names =
            (let same : after ≡ s = (let both = sym (seat_changed n.table key seat after there) ∙ is in cc (both)) in
            let both : None ≡ Some q = ap (λ (u : Seat). u.live) same ∙ names in
            cc (both))

        pub over_seated : IsSeated over
        over_seated =
            reseated n key end (with_seat n.table key after) f coded (n.live - 1)
            (record {
              others = λ k apart. seat_stays n.table key k after apart;
              records = λ place b is. record_seated n.table key after place b is;
              ends_stay = λ q apart. left.others.others q apart ∙ keeps.others.others q apart;
              lives_stay = other-code;
              free = free;
              names = λ s q is names. absurd (no-name s q is names);
              there = λ s q is names. absurd (no-name s q is names);
              idle = λ s q is names inactive. absurd (no-name s q is names);
              kinds = λ s q life is names its. absurd (no-name s q is names);
              count = (let all = seats.count in let same = count in let less = fewer in omega arith);
            }) seats

        -- it stays the node that it was
        pub over_kept : KeepsNode n over
        over_kept =
            record {
              kind = refl;
              limits = refl;
              prompt = refl;
              secret = refl;
              moment = refl;
              names = names-changed n.table.conns (key / 4) (seated (key % 4) after) (λ r. refl);
            }

  -- ---- what it mirrors then

  module _ (l : Looks) (ch : Channel) (k : CallRecord) (c : Change class n l key end ch seat k)
      (falls : Falls k.life (life_of code)) where
    was : ChannelStands n l key ch seat
    was = c.mirrors.channels key ch seat c.channel c.there

    abbrev new : CallRecord
    new = record k { life = life_of code }

    by-fall : (table : Records) (ends : EndsState) (count : ℕ) (after : Seat)
        → Lives n key seat after k (life_of code) table ends coded count
        → Mirrors class (record n { table = table; ends = ends; lives = coded; live = count })
        (on_life (latest_name l ch) (λ x. life_of code) l)
    by-fall table ends count after by =
        subst (λ (m : Looks). Mirrors class (record n { table = table; ends = ends; lives = coded; live = count }) m)
        (same_change (latest_name l ch) (λ j. record j { life = falls_to (life_of code) j.life })
        (λ j. record j { life = life_of code }) l c.mirrors.roomy.differ
        (λ j found. (
        let same : k ≡ j = (let both = sym c.latest_is ∙ found in cc (both)) in
        let its : Falls j.life (life_of code) =
        subst (λ (i : CallRecord). Falls i.life (life_of code)) same falls in
        λ i. record j { life = to_is (life_of code) j.life its i })))
        (mirrors_life class n l c.mirrors seats key ch c.channel seat after c.there k c.latest_is
        (falls_to (life_of code)) (to_falls (life_of code)) table ends coded count
        (subst (λ (x : Life). Lives n key seat after k x table ends coded count)
        (sym (to_is (life_of code) k.life falls)) by))

    named-both : is_live (life_of code) ≡ true → is_some seat.live ≡ is_live (life_of code)
    named-both live = ap (λ (o : Option ℕ). is_some o) names_end ∙ sym live

    -- a life that is active still
    pub mirrors_lived : is_active (life_of code) ≡ true
        → Mirrors class lived (on_life (latest_name l ch) (λ x. life_of code) l)
    mirrors_lived active =
        let before : is_active k.life ≡ true = falls.active active in
        let live : is_live (life_of code) ≡ true = live_if_active (life_of code) active in
        by-fall n.table n.ends n.live seat
        (record {
          seats = record { own = c.there; others = λ j apart. refl; records = same_records n.table; count = refl };
          owes = λ q o. o;
          life = its-life seat.live seat.«end» names_end;
          named = named-both live;
          stands = λ q names is. was.call.stands q k names c.latest_is before;
          others = other-code;
          aside = λ q looks apart s. s;
          common = (
              let old = if-true (is_active k.life) (beside_looks k.looks) before in
              let now = if-true (is_active (life_of code)) (beside_looks k.looks) active in
              omega arith);
          counted = (
              let old = if-true (is_live k.life) 1 c.live in
              let now = if-true (is_live (life_of code)) 1 live in
              omega arith);
        })

    module _ (e : EndsState) (keeps : KeepsEnds n.ends e end)
        (common : (looks : CallLooks) → StandsEnd n.ends end looks → e.common + beside_looks looks ≡ n.ends.common)
        (again : IsIdleAt n.ends end → e.common ≡ n.ends.common) (inactive : is_active (life_of code) ≡ false) where
      cleared-common : e.common + beside k ≡ n.ends.common + beside new
      cleared-common =
          (elim (is_active k.life) as (λ b. is_active k.life ≡ b → e.common + beside k ≡ n.ends.common + beside new) [
            | true ↦ λ active. (
                let old = if-true (is_active k.life) (beside_looks k.looks) active in
                let now = if-false (is_active (life_of code)) (beside_looks k.looks) inactive in
                let all = common k.looks (was.call.stands end k names_end c.latest_is active) in
                omega arith)
            | false ↦ λ none. (
                let old = if-false (is_active k.life) (beside_looks k.looks) none in
                let now = if-false (is_active (life_of code)) (beside_looks k.looks) inactive in
                let life : option_map life_of (slice_get n.lives key) ≡ Some k.life =
                sym (ap (λ (o : Option ℕ). life_by n.lives (is_client n.kind) key o seat.«end») names_end)
                ∙ was.call.life ∙ ap (option_map (λ j. j.life)) c.latest_is in
                let same = again (seats.idle key seat end c.there names_end (ap is_active_life life ∙ none)) in
                omega arith)
          ]) refl

      aside : (q : ℕ) (looks : CallLooks) → (seat.live ≡ Some q → ⊥) → StandsEnd n.ends q looks → StandsEnd e q looks
      aside q looks apart s = keeps.stands q looks (λ one. apart (names_end ∙ ap (λ (j : ℕ). Some j) (sym one))) s

      -- one that isn't, of a call that lives
      pub mirrors_cleared : is_live (life_of code) ≡ true
          → Mirrors class (record n { ends = e; lives = coded }) (on_life (latest_name l ch) (λ x. life_of code) l)
      mirrors_cleared live =
          by-fall n.table e n.live seat
          (record {
            seats = record { own = c.there; others = λ j apart. refl; records = same_records n.table; count = refl };
            owes = λ q o. o;
            life = its-life seat.live seat.«end» names_end;
            named = named-both live;
            stands = λ q names is. absurd (false≢true (sym inactive ∙ is));
            others = other-code;
            aside = aside;
            common = cleared-common;
            counted = (
                let old = if-true (is_live k.life) 1 c.live in
                let now = if-true (is_live (life_of code)) 1 live in
                omega arith);
          })

      -- one of a call that ends
      pub mirrors_over : (of_kind : is_of (is_client n.kind) (life_of code) ≡ true) (f : EndsState)
          (left : KeepsEnds e f end) → f.common ≡ e.common → is_live (life_of code) ≡ false → (count : ℕ)
          → count + 1 ≡ n.live
          → Mirrors class
          (record n {
            table = with_seat n.table key (record seat { live = None; «end» = Some (end_of (life_of code)) });
            ends = f;
            lives = coded;
            live = count;
          })
          (on_life (latest_name l ch) (λ x. life_of code) l)
      mirrors_over of_kind f left same ended count less =
          let after : Seat = record seat { live = None; «end» = Some (end_of (life_of code)) } in
          by-fall (with_seat n.table key after) f count after
          (record {
            seats = record {
              own = seat_changed n.table key seat after c.there;
              others = λ j apart. seat_stays n.table key j after apart;
              records = λ place b is. record_seated n.table key after place b is;
              count = changed-length n.table.conns (key / 4) (seated (key % 4) after);
            };
            owes = λ q o. record {
              number = o.number;
              abort = o.abort;
              busy = o.busy;
              challenge = o.challenge;
              response = o.response;
              ackall = o.ackall;
            };
            life = ap (λ (x : Life). Some x) (ended_again (is_client n.kind) (life_of code) ended of_kind);
            named = sym ended;
            stands = λ q names is. absurd (false≢true (sym inactive ∙ is));
            others = other-code;
            aside = λ q looks apart s.
                left.stands q looks (λ one. apart (names_end ∙ ap (λ (j : ℕ). Some j) (sym one)))
                (aside q looks apart s);
            common = (let all = cleared-common in omega arith);
            counted = (
                let old = if-true (is_live k.life) 1 c.live in
                let now = if-false (is_live (life_of code)) 1 ended in
                omega arith);
          })
