-- Each event leaves a node's calls with no more slots than they may hold.
use Rattle.std.proofs.Common.{◌≡◌, ◌⊎◌, ◌≤◌, ◌||◌, ◌+◌, ℕ, if◌then◌else◌, Bool, true, false, List, []}
use Rattle.std.proofs.Common.{◌++◌, drop, length, Option, Some, None, Result, Ok, Err, refl, ◌∙◌, ap, sym, subst, inl}
use Rattle.std.proofs.Common.{inr, arith, append-nil}
use Rattle.rx_model.specs.declared.answers.BadMsg.{BadMsg}
use Rattle.rx_model.specs.declared.names.CallName.{CallName}
use Rattle.rx_model.specs.declared.names.Host.{Host}
use Rattle.rx_model.specs.Body.{Body}
use Rattle.rx_model.specs.Body as bodies
use Rattle.rx_model.specs.Message.{Message}
use Rattle.rx_model.specs.Names.{connection_of}
use Rattle.rx_model.specs.Reading.{reading_of}
use Rattle.rx_model.specs.Strays.{is_stray}
use Rattle.rx_rules.specs.After.{acknowledged, counted, given_body, given_by, given_message, read_done}
use Rattle.rx_rules.specs.CallLooks.{CallLooks, after_ack_given, after_piece, after_read, after_write}
use Rattle.rx_rules.specs.Life.{after_end, is_active}
use Rattle.rx_rules.specs.Looks.{CallRecord, Looks, call_at, on_looks}
use Rattle.rx_rules.specs.Received.{Received}
use Rattle.rx_rules.specs.Records.{is_silent, silence_of, silenced, unless_silent}
use Rattle.rx_rules.specs.Setup.{Setup, is_client, named, sending_window, shared_slots}
use Rattle.rx_rules.specs.Slots.{left_slots, room}
use Rattle.rx_history.proofs.Ends.{ends_in, left_of, whole_of}
use Rattle.rx_history.proofs.Given.HeldLaws.{beside_of, beside_read, beside_write}
use Rattle.rx_history.proofs.LifeFalls.{end_falls, silence_falls}
use Rattle.rx_history.proofs.Room.Roomy.{Takes, roomy_all, roomy_one, roomy_takes}
use Rattle.rx_history.proofs.Room.RoomStarts.{RoomyAt, roomy_life}
use Rattle.rx_history.proofs.Room.Tight.{TightOf, gives_ack, gives_if, gives_life, gives_piece, more_looks, received_in}
use Rattle.rx_history.proofs.Laws.WholeLaws.{Whole, end_reads, whole_reads}

-- ---- a poll

roomy-silenced : (s : Setup) (l : Looks) → RoomyAt s l → RoomyAt s (silenced l)
roomy-silenced s l r =
    roomy_all (is_client s.kind) (shared_slots s) (unless_silent l.now) l.calls
    (λ k. gives_if (is_client s.kind) (is_silent l.now k) k _
    (gives_life (is_client s.kind) k _ (silence_falls (silence_of l.now k) k.life))) r

roomy-body : (s : Setup) (c : CallName) (m : Message) (body : Body) (l : Looks) → RoomyAt s l
    → RoomyAt s (given_body c m body l)
roomy-body s c m (bodies.Chunk payload) l r =
    roomy_one (is_client s.kind) (shared_slots s) c (λ k. record k { looks = after_piece l.now m.seq k.looks }) l.calls
    (gives_piece (is_client s.kind) l.now m.seq) r
roomy-body s c m (bodies.Ack a) l r =
    roomy_one (is_client s.kind) (shared_slots s) c (λ k. record k { looks = after_ack_given l.now k.looks }) l.calls
    (gives_ack (is_client s.kind) l.now) r
roomy-body s c m _ l r = r

roomy-given : (s : Setup) (to : Host) (reading : Result Message BadMsg) (l : Looks) → RoomyAt s l
    → RoomyAt s (given_message s to reading l)
roomy-given s to (Err bad) l r = r
roomy-given s to (Ok m) l r = of (is_stray m m.body)
  where
    of : (b : Bool) → RoomyAt s
        (if b then record l { strays = drop 1 l.strays } else given_body (named s to m) m m.body
        (counted (connection_of (named s to m)) l))
    of true = r
    of false = roomy-body s (named s to m) m m.body (counted (connection_of (named s to m)) l) r

-- whatever it gives
pub roomy_polled : (s : Setup) (got : Option (Host × List ℕ)) (l : Looks) → RoomyAt s l
    → RoomyAt s (given_by s got (silenced l))
roomy_polled s None l r = roomy-silenced s l r
roomy_polled s (Some (to, bytes)) l r = roomy-given s to (reading_of bytes) (silenced l) (roomy-silenced s l r)

-- ---- a write

-- what the rules say of the bytes that a write accepts
abbrev pub Wrote : Setup → Looks → CallRecord → List ℕ → Type 0
Wrote s l k bytes = (bytes ≡ []) ⊎ (k.looks.sent.shut ≡ false) × (length bytes ≤ room s l k.looks)

write-takes : (s : Setup) (l : Looks) (k : CallRecord) (bytes : List ℕ) → Wrote s l k bytes
    → TightOf (is_client s.kind) k
    → Takes (is_client s.kind) (left_slots s l) k (record k { looks = after_write bytes k.looks })
write-takes s l k bytes (inr can) t =
    record {
      more = more_looks k (after_write bytes k.looks) (left_slots s l)
          (beside_write (sending_window s) (left_slots s l) bytes k.looks can.0 can.1);
      tight = record { whole = t.whole; first = t.first; unshut = t.unshut; served = t.served };
    }
write-takes s l k bytes (inl none) t =
    record {
      more =
          more_looks k (after_write bytes k.looks) (left_slots s l)
          (subst (λ (b : CallLooks). beside_of b ≤ beside_of k.looks + left_slots s l) (sym same) (omega arith));
      tight = record { whole = t.whole; first = t.first; unshut = t.unshut; served = t.served };
    }
  where
    same : after_write bytes k.looks ≡ k.looks
    same =
        ap (λ (xs : List ℕ). record k.looks { sent = record k.looks.sent { said = xs } })
        (ap (λ (xs : List ℕ). k.looks.sent.said ++ xs) none ∙ append-nil k.looks.sent.said)

-- a write takes at most what is left
pub roomy_wrote : (s : Setup) (c : CallName) (bytes : List ℕ) (l : Looks)
    → ((k : CallRecord) → call_at l c ≡ Some k → TightOf (is_client s.kind) k → Wrote s l k bytes)
    → RoomyAt s l → RoomyAt s (on_looks c (after_write bytes) l)
roomy_wrote s c bytes l wrote r =
    roomy_takes c (λ k. record k { looks = after_write bytes k.looks }) (is_client s.kind) (shared_slots s) l.calls
    (λ k. refl)
    (λ k there t. write-takes s l k bytes (wrote k there t) t) r

-- ---- a read

-- what the rules say of a read that answers End, of a call that holds slots
abbrev pub ReadWhole : CallRecord → Bool → Type 0
ReadWhole k end =
    is_active k.life ≡ true → end ≡ true
    → (k.looks.received.ended ≡ true) ⊎ ((left_of (ends_in k.looks) ≡ []) × (whole_of (ends_in k.looks) ≡ true))

read-takes : (s : Setup) (now left : ℕ) (k : CallRecord) (end : Bool) (bytes : List ℕ) → ReadWhole k end
    → TightOf (is_client s.kind) k
    → Takes (is_client s.kind) left k (record k { looks = after_read now end bytes k.looks })
read-takes s now left k end bytes whole t =
    record {
      more = more_looks k (after_read now end bytes k.looks) left (let less = beside_read now end bytes k.looks in
          omega arith);
      tight = record {
        whole = λ live ended. of end
            (whole live) live ended;
        first = t.first;
        unshut = t.unshut;
        served = t.served;
      };
    }
  where
    r : Received
    r = received_in (ends_in k.looks)

    again : (e : Bool) → is_active k.life ≡ true → k.looks.received.ended ≡ true
        → Whole (received_in (ends_in (after_read now e bytes k.looks)))
    again e live ended =
        let w = whole_reads e bytes r (t.whole live ended) in
        record { complete = w.complete; used = w.used }

    of : (e : Bool) → (e ≡ true
        → (k.looks.received.ended ≡ true) ⊎ ((left_of (ends_in k.looks) ≡ []) × (whole_of (ends_in k.looks) ≡ true)))
        → is_active k.life ≡ true → (e || k.looks.received.ended) ≡ true
        → Whole (received_in (ends_in (after_read now e bytes k.looks)))
    of false facts live ended = again false live ended
    of true facts live ended =
        (elim (facts refl) as (λ y. Whole (received_in (ends_in (after_read now true bytes k.looks)))) [
          | inl before ↦ again true live before
          | inr all ↦ (let w = end_reads bytes r all.0 all.1 in record { complete = w.complete; used = w.used })
        ])

-- a read takes none
pub roomy_read : (s : Setup) (c : CallName) (end : Bool) (bytes : List ℕ) (l : Looks)
    → ((k : CallRecord) → call_at l c ≡ Some k → ReadWhole k end)
    → RoomyAt s l → RoomyAt s (read_done c end bytes l)
roomy_read s c end bytes l whole r =
    roomy_life s c (after_end end) (on_looks c (after_read l.now end bytes) (acknowledged end c l)) (end_falls end)
    (roomy_takes c (λ k. record k { looks = after_read l.now end bytes k.looks }) (is_client s.kind)
    (shared_slots s) l.calls (λ k. refl)
    (λ k there t. read-takes s l.now (left_slots s l) k end bytes (whole k there) t) r)
