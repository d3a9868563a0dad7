-- A node mirrors what becomes of look-ups where the end of a call takes a step.
use Rattle.std.proofs.Common.{◌≡◌, ◌+◌, ℕ, Bool, true, false, List, if◌then◌else◌}
use Rattle.std.proofs.Common.{Option, Some, None, option_map, refl, ◌∙◌, ap, sym, subst, arith}
use Rattle.std.specs.Prelude.{◌/◌, ◌%◌, option_and_then, slice_get}
use Rattle.std.proofs.lemmas.Bool.{false≢true}
use Rattle.rx_model.specs.Names.{Channel, channel_of, same_channel, same_name}
use Rattle.rx_rules.specs.CallLooks.{CallLooks}
use Rattle.rx_rules.specs.Classes.{Class}
use Rattle.rx_rules.specs.Life.{is_active, is_live}
use Rattle.rx_rules.specs.Looks.{CallRecord, Looks, is_call, latest, latest_name, on_looks}
use Rattle.rx_rules.specs.Slots.{beside, common, live}
use Rattle.rx_model.proofs.NameLaws.{channel_itself, name_is, refuted}
use Rattle.rx_rules.proofs.CallsLaws.{call_at-on_call, changed_if}
use Rattle.rx_history.proofs.OneCall.{common_one, live_one, life_of}
use Rattle.rx_history.proofs.Order.Orderly.{orderly_looks}
use Rattle.rx_history.proofs.Room.RoomStarts.{RoomyAt}
use Rattle.rx_table.specs.declared.seat.Seat.{Seat}
use Rattle.rx_table.specs.Records.{seat_at}
use Rattle.rx_call_ends.specs.Ends.{EndsState, StandsEnd, StepsEnd, beside_looks}
use Rattle.rx_node.specs.Mirrors.{ChannelStands, IsActiveAt, IsChannel, Mirrors, channel_in}
use Rattle.rx_node.specs.Node.{IsSeated, NodeState, is_active_life, life_at, seat_life, setup_of}
use Rattle.rx_node.proofs.Steps.ChannelSteps.{latest_changed, latest_stays}
use Rattle.rx_node.proofs.Steps.OwingSteps.{one_channel, one_key}
use Rattle.rx_node.proofs.Steps.TableSteps.{decided}

-- the latest call of a channel, which is active, with what its end stands for
pub record ActiveCall (n : NodeState) (l : Looks) (ch : Channel) (end : ℕ) : Type 0 where
  pub call : CallRecord
  pub latest_is : latest l ch ≡ Some call
  pub active : is_active call.life ≡ true
  pub stands : StandsEnd n.ends end call.looks

module _ (class : List ℕ → Class) (n : NodeState) (l : Looks) (m : Mirrors class n l) where
  -- it is there
  pub active_call : (key end : ℕ) (ch : Channel) → IsChannel l key ch → IsActiveAt n key end → ActiveCall n l ch end
  active_call key end ch at a = of (latest l ch) refl
    where
      was : ChannelStands n l key ch a.seat
      was = m.channels key ch a.seat at a.there

      life : life_at n key ≡ option_map (λ k. k.life) (latest l ch)
      life = ap (λ (o : Option Seat). option_and_then (seat_life n key) o) a.there ∙ was.call.life

      of : (o : Option CallRecord) → latest l ch ≡ o → ActiveCall n l ch end
      of None is =
          absurd (false≢true (sym (ap is_active_life (life ∙ ap (option_map (λ k. k.life)) is)) ∙ a.active))
      of (Some k) is =
          let active : is_active k.life ≡ true =
          sym (ap is_active_life (life ∙ ap (option_map (λ k. k.life)) is)) ∙ a.active in
          record { call = k; latest_is = is; active = active; stands = was.call.stands end k a.live is active }

  -- latest calls of two channels differ
  pub names_apart : (a b : ℕ) (c d : Channel) → IsChannel l a c → IsChannel l b d → (a ≡ b → ⊥)
      → same_name (latest_name l d) (latest_name l c) ≡ false
  names_apart a b c d here there apart =
      refuted (same_name (latest_name l d) (latest_name l c))
      (λ same. (
      let is : d ≡ c = ap channel_of (name_is (latest_name l d) (latest_name l c) same) in
      apart (one_key class n l m a b c d here there
      (subst (λ (e : Channel). same_channel d e ≡ true) is (channel_itself d)))))

module _ (class : List ℕ → Class) (n : NodeState) (l : Looks) (m : Mirrors class n l) (seats : IsSeated n)
    (key end : ℕ) (ch : Channel) (at : IsChannel l key ch) (active : IsActiveAt n key end) (e : EndsState)
    (step : CallLooks → CallLooks) (steps : StepsEnd n.ends e end step) where
  abbrev next : NodeState
  next = record n { ends = e }

  abbrev change : CallRecord → CallRecord
  change k = record k { looks = step k.looks }

  abbrev made : Looks
  made = on_looks (latest_name l ch) step l

  its : ActiveCall n l ch end
  its = active_call class n l m key end ch at active

  end-common : e.common ≡ common made
  end-common =
      let one : common made + beside its.call ≡ common l + beside (change its.call) =
      common_one (latest_name l ch) change l its.call m.roomy.differ its.latest_is in
      let two : e.common + beside_looks its.call.looks ≡ n.ends.common + beside_looks (step its.call.looks) =
      steps.common its.call.looks its.stands in
      let old : beside its.call ≡ beside_looks its.call.looks =
      ap (λ (b : Bool). if b then beside_looks its.call.looks else 0) its.active in
      let new : beside (change its.call) ≡ beside_looks (step its.call.looks) =
      ap (λ (b : Bool). if b then beside_looks (step its.call.looks) else 0) its.active in
      let before = m.common in
      omega arith

  end-live : n.live ≡ live made
  end-live =
      let one : live made + life_of its.call ≡ live l + life_of (change its.call) =
      live_one (latest_name l ch) change l its.call m.roomy.differ its.latest_is in
      let before = m.live in
      omega arith

  call-own : (d : Channel) (s : Seat) → IsChannel l key d → seat_at n.table key ≡ Some s
      → ChannelStands next made key d s
  call-own d s here is =
      let one : ch ≡ d = one_channel class n l m key ch d at here in
      let was = m.channels key ch s at is in
      let now : latest made ch ≡ option_map change (latest l ch) =
      latest_changed l ch (latest_name l ch) change (λ k. refl) refl in
      let found : latest made ch ≡ Some (change its.call) = now ∙ ap (option_map change) its.latest_is in
      subst (λ (c : Channel). ChannelStands next made key c s) one
      (record {
        owes = was.owes;
        call = record {
          life = was.call.life ∙ ap (option_map (λ k. k.life)) its.latest_is
              ∙ sym (ap (option_map (λ k. k.life)) found);
          live = was.call.live ∙ ap (is_call (λ k. is_live k.life)) its.latest_is
              ∙ sym (ap (is_call (λ k. is_live k.life)) found);
          stands = λ q k names there lives. (
              let same : end ≡ q = (let both = sym (seat-live s is) ∙ names in cc (both)) in
              let call : change its.call ≡ k = (let both = sym found ∙ there in cc (both)) in
              subst (λ (j : ℕ). StandsEnd e j k.looks) same
              (subst (λ (c : CallRecord). StandsEnd e end c.looks) call (steps.stands its.call.looks its.stands)));
        };
      })
    where
      seat-live : (t : Seat) → seat_at n.table key ≡ Some t → t.live ≡ Some end
      seat-live t there =
          let same : active.seat ≡ t = (let both = sym active.there ∙ there in cc (both)) in
          subst (λ (u : Seat). u.live ≡ Some end) same active.live

  call-other : (k : ℕ) (d : Channel) (s : Seat) → (key ≡ k → ⊥) → IsChannel l k d → seat_at n.table k ≡ Some s
      → ChannelStands next made k d s
  call-other k d s apart here is =
      let was = m.channels k d s here is in
      let same : latest made d ≡ latest l d =
      latest_stays l d (latest_name l ch) change (λ k. refl) (names_apart class n l m key k ch d at here apart) in
      record {
        owes = was.owes;
        call = record {
          life = was.call.life ∙ ap (option_map (λ k. k.life)) (sym same);
          live = was.call.live ∙ ap (is_call (λ k. is_live k.life)) (sym same);
          stands = λ q c names there lives.
              steps.keeps.stands q c.looks
              (λ one. apart (sym (seats.apart k key s active.seat q is active.there names
              (active.live ∙ ap (λ (j : ℕ). Some j) (sym one)))))
              (was.call.stands q c names (sym same ∙ there) lives);
        };
      }

  -- it mirrors the step
  pub mirrors_end : RoomyAt (setup_of class n) made → Mirrors class next made
  mirrors_end roomy =
      record {
        now = m.now;
        conns = record { conns = m.conns.conns; links = m.conns.links; each = m.conns.each };
        channels = λ k d s here is.
            decided (ChannelStands next made k d s) key k
            (λ same. subst (λ (j : ℕ). ChannelStands next made j d s) same
            (call-own d s (record {
              conn = here.conn;
              there = subst (λ (j : ℕ). slice_get l.conns (j / 4) ≡ Some here.conn) (sym same) here.there;
              is = subst (λ (j : ℕ). d ≡ channel_in here.conn (j % 4)) (sym same) here.is;
            })
            (subst (λ (j : ℕ). seat_at n.table j ≡ Some s) (sym same) is)))
            (λ apart. call-other k d s apart
            (record { conn = here.conn; there = here.there; is = here.is }) is);
        live = end-live;
        common = end-common;
        strays = m.strays;
        numbered = λ c zero. (call_at-on_call c (latest_name l ch) change l (λ k. refl)
            ∙ ap (option_map (changed_if (latest_name l ch) change)) (m.numbered c zero));
        orderly = orderly_looks (setup_of class n) (latest_name l ch) step l m.orderly;
        roomy = roomy;
      }
