-- A stream that is shut may open a piece: it takes no slot where nothing in front is left.
use Rattle.std.proofs.Common.{◌≡◌, ◌≤◌, ◌||◌, ◌+◌, ◌-◌, ℕ, ℤ, cond, if◌then◌else◌, not, Bool, true, false, List, []}
use Rattle.std.proofs.Common.{◌∷◌}
use Rattle.std.proofs.Common.{map, Option, Some, Result, Ok, Err, refl, ◌∙◌, ap, sym, subst, arith}
use Rattle.rx_model.specs.declared.answers.ServeRefused.{ServeRefused}
use Rattle.rx_model.specs.declared.answers.ServeRefused.TheVariants as refusals
use Rattle.rx_model.specs.declared.names.CallName.{CallName}
use Rattle.rx_model.specs.Names.{channel_of, same_name}
use Rattle.rx_rules.specs.After.{finish_done, finished, is_zero, owing_abort}
use Rattle.rx_rules.specs.CallLooks.{CallLooks, after_shut}
use Rattle.rx_rules.specs.Life.{Life, after_end, after_finish, after_gone, is_active}
use Rattle.rx_rules.specs.Life as lives
use Rattle.rx_rules.specs.Looks.{CallRecord, Looks, call_at, on_channel, on_life, on_looks}
use Rattle.rx_rules.specs.Received.{Packet, Received, front_of, used_of}
use Rattle.rx_rules.specs.Rules.{served_by, served_finish}
use Rattle.rx_rules.specs.Setup.{Setup, is_client, shared_slots}
use Rattle.rx_rules.specs.Slots.{beside, common, left_slots}
use Rattle.rx_rules.proofs.CallsLaws.{KeepsNames, changed_if}
use Rattle.rx_history.proofs.Given.HeldLaws.{beside_of, beside_shut}
use Rattle.rx_history.proofs.LifeFalls.{finish_falls, gone_falls}
use Rattle.rx_history.proofs.Room.Roomy.{Roomy, Takes, roomy_takes}
use Rattle.rx_history.proofs.Room.RoomStarts.{RoomyAt, roomy_life}
use Rattle.rx_history.proofs.Room.Tight.{TightOf}

-- ---- a client shuts its request

less-live : (k : CallRecord) (b : CallLooks) (left : ℕ) → (is_active k.life ≡ true → beside_of b ≤ beside_of k.looks)
    → beside (record k { looks = b }) ≤ beside k + left
less-live k b left low = of (is_active k.life) low
  where
    of : (live : Bool) → (live ≡ true → beside_of b ≤ beside_of k.looks)
        → (if live then beside_of b else 0) ≤ (if live then beside_of k.looks else 0) + left
    of true low = (let less = low refl in omega arith)
    of false low = omega arith

nothing-before : (r : Received) → r.kept ≡ [] → front_of r.kept ≤ used_of r
nothing-before r none = subst (λ (ps : List Packet). front_of ps ≤ used_of r) (sym none) (omega arith)

-- a client shuts its request: it keeps nothing yet
shut-takes : (client : Bool) (left : ℕ) (k : CallRecord) → client ≡ true → k.looks.sent.shut ≡ false → TightOf client k
    → Takes client left k (record k { looks = after_shut k.looks })
shut-takes client left k is unshut t =
    let none : k.looks.received.kept ≡ [] = t.first is unshut in
    record {
      more = less-live k (after_shut k.looks) left (λ live. beside_shut k.looks (nothing-before k.looks.received none));
      tight = record {
        whole = t.whole;
        first = λ client shut. absurd cc;
        unshut = λ server. absurd
            (cc (is, server));
        served = t.served;
      };
    }

-- a client's shut takes no slot
pub roomy_shut : (s : Setup) (c : CallName) (l : Looks) → is_client s.kind ≡ true
    → ((k : CallRecord) → call_at l c ≡ Some k → k.looks.sent.shut ≡ false)
    → RoomyAt s l → RoomyAt s (on_looks c after_shut l)
roomy_shut s c l client unshut r =
    roomy_takes c (λ k. record k { looks = after_shut k.looks }) (is_client s.kind) (shared_slots s) l.calls (λ k. refl)
    (λ k there t. shut-takes (is_client s.kind) (left_slots s l) k client (unshut k there) t) r

-- ---- a handler ends

-- a change behind another of the same call
twice : (c : CallName) (f g : CallRecord → CallRecord) (ks : List CallRecord) → KeepsNames g
    → map (changed_if c f) (map (changed_if c g) ks) ≡ map (changed_if c (λ k. f (g k))) ks
twice c f g [] names = refl
twice c f g (k ∷ ks) names = (let rest = twice c f g ks names in let here = head k in λ i. here i ∷ rest i)
  where
    head : (j : CallRecord) → changed_if c f (changed_if c g j) ≡ changed_if c (λ k. f (g k)) j
    head j =
        (elim (same_name j.name c) as (λ b. same_name j.name c ≡ b
        → changed_if c f (cond b (g j) j) ≡ cond b (f (g j)) j) [
          | true ↦ λ own. ap (λ (n : CallName). cond (same_name n c) (f (g j)) (g j)) (names j) ∙ rw own refl
          | false ↦ λ other. rw other refl
        ]) refl

abbrev pub was_done : Result (Unit {0}) ServeRefused
was_done = Ok tt

-- it shuts its reply, and had read the request to its end
finish-takes : (left : ℕ) (code : ℤ) (name : CallName) (looks : CallLooks) (life : Life)
    → was_done ≡ served_by life (looks.received.ended || false) tt
    → TightOf false (record { name = name; life = life; looks = looks })
    → Takes false left (record { name = name; life = life; looks = looks })
    (record { name = name; life = after_finish true code life; looks = after_shut looks })
finish-takes left code name looks lives.Accepted is t = of looks.received.ended refl is
  where
    of : (ended : Bool) → looks.received.ended ≡ ended → was_done ≡ served_by lives.Accepted (ended || false) tt
        → Takes false left (record { name = name; life = lives.Accepted; looks = looks })
        (record { name = name; life = lives.Finished; looks = after_shut looks })
    of true ended is =
        (let w = t.whole refl ended in
        let low = beside_shut looks w.used in
        record {
          more = omega arith;
          tight = record {
            whole = λ live. t.whole refl;
            first = λ client. absurd cc;
            unshut = λ server begun. absurd
                cc;
            served = λ server. refl;
          };
        })
    of false ended is = absurd cc
finish-takes left code name looks _ is t = absurd cc

roomy-done : (s : Setup) (c : CallName) (code : ℤ) (l : Looks) → is_client s.kind ≡ false
    → was_done ≡ served_finish (call_at l c) code
    → RoomyAt s l → RoomyAt s (on_life c (after_finish (is_zero code) code) (finished c code l))
roomy-done s c code l server is r =
    (elim (is_zero code) as (λ b. is_zero code ≡ b → RoomyAt s (on_life c (after_finish b code)
    (if b then on_looks c after_shut l else on_channel (channel_of c) (owing_abort (Some code)) l))) [
      | true ↦ λ zero.
          subst (λ (ks : List CallRecord). Roomy (is_client s.kind) (shared_slots s) ks)
          (sym (twice c (λ k. record k { life = after_finish true code k.life })
          (λ k. record k { looks = after_shut k.looks }) l.calls (λ k. refl)))
          (roomy_takes c (λ k. record k { life = after_finish true code k.life; looks = after_shut k.looks })
          (is_client s.kind) (shared_slots s) l.calls
          (λ k. refl) (λ k there t. takes k there zero t) r)
      | false ↦ λ other. roomy_life s c (after_finish false code)
          (on_channel (channel_of c) (owing_abort (Some code)) l) (finish_falls false code) r
    ]) refl
  where
    takes : (k : CallRecord) → call_at l c ≡ Some k → is_zero code ≡ true → TightOf (is_client s.kind) k
        → Takes (is_client s.kind) (shared_slots s - common l) k
        (record k { life = after_finish true code k.life; looks = after_shut k.looks })
    takes k there zero t =
        let done : was_done ≡ served_by k.life (k.looks.received.ended || false) tt =
        is ∙ ap (λ (o : Option CallRecord). served_finish o code) there
        ∙ ap (λ (b : Bool). served_by k.life (k.looks.received.ended || not b) tt) zero in
        subst (λ (b : Bool). TightOf b k
        → Takes b (shared_slots s - common l) k
        (record k { life = after_finish true code k.life; looks = after_shut k.looks })) (sym server)
        (λ t. finish-takes (shared_slots s - common l) code k.name k.looks k.life done t) t

-- whatever it is told
pub roomy_finished : (s : Setup) (c : CallName) (code : ℤ) (got : Result (Unit {0}) ServeRefused) (l : Looks)
    → is_client s.kind ≡ false
    → got ≡ served_finish (call_at l c) code → RoomyAt s l → RoomyAt s (finish_done c code got l)
roomy_finished s c code (Ok done) l server is r = roomy-done s c code l server is r
roomy_finished s c code (Err (refusals.Gone told)) l server is r = roomy_life s c after_gone l gone_falls r
roomy_finished s c code (Err refusals.NotOpen) l server is r = r
roomy_finished s c code (Err refusals.Unread) l server is r = r
