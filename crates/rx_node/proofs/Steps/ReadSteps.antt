-- What a read of a channel's call makes of look-ups: its end first, then what its channel owes and its life.
use Rattle.std.proofs.Common.{◌≡◌, ◌⊎◌, ◌||◌, ℕ, if◌then◌else◌, Bool, true, false, List, [], ◌∷◌, map}
use Rattle.std.proofs.Common.{Option, Some, None, option_map, refl, ◌∙◌, ap, sym, subst, inl, inr, arith}
use Rattle.std.proofs.lemmas.Bool.{false≢true}
use Rattle.rx_model.specs.declared.answers.CallRead.{CallRead}
use Rattle.rx_model.specs.declared.names.CallName.{CallName}
use Rattle.rx_model.specs.Names.{Channel, channel_of, same_name}
use Rattle.rx_rules.specs.After.{acknowledged, owing_ackall, read_done}
use Rattle.rx_rules.specs.CallLooks.{CallLooks, after_read}
use Rattle.rx_rules.specs.Classes.{Class}
use Rattle.rx_rules.specs.Life.{Life, after_end, is_active, is_calling}
use Rattle.rx_rules.specs.Life as lives
use Rattle.rx_rules.specs.Looks.{CallRecord, Looks, call_at, is_call, latest, latest_name, on_channel, on_life}
use Rattle.rx_rules.specs.Looks.{on_looks}
use Rattle.rx_rules.specs.Received.{Received, is_complete, read_from, read_of, unread_of}
use Rattle.rx_rules.specs.Setup.{Setup, is_client, shared_slots}
use Rattle.rx_rules.specs.Slots.{left_slots}
use Rattle.rx_rules.proofs.CallsLaws.{changed_if}
use Rattle.rx_history.proofs.Given.HeldLaws.{beside_read}
use Rattle.rx_history.proofs.Room.Roomy.{Takes, roomy_takes}
use Rattle.rx_history.proofs.Room.RoomEvents.{ReadWhole}
use Rattle.rx_history.proofs.Room.RoomStarts.{RoomyAt}
use Rattle.rx_history.proofs.Room.Tight.{TightOf, more_looks}
use Rattle.rx_history.proofs.Laws.WholeLaws.{Whole, end_reads, whole_reads}
use Rattle.rx_recvwin.specs.Window.{tells_end}
use Rattle.rx_node.specs.Mirrors.{Mirrors}
use Rattle.rx_node.specs.Node.{NodeState, setup_of}
use Rattle.rx_node.proofs.ChannelChanges.{channel_same}
use Rattle.rx_node.proofs.Steps.ChannelSteps.{latest_changed}

-- ---- what a read that answers End found

ended-by : (max : ℕ) (unread : List ℕ) (complete : Bool) (result : CallRead) (bytes : List ℕ)
    → (result, bytes) ≡ read_from max unread complete → tells_end result ≡ true → (unread ≡ []) × (complete ≡ true)
ended-by max [] true result bytes is end = (refl, refl)
ended-by max [] false result bytes is end =
    absurd (false≢true (sym (ap (λ (p : CallRead × List ℕ). tells_end p.0) is) ∙ end))
ended-by max (x ∷ xs) complete result bytes is end =
    absurd (false≢true (sym (ap (λ (p : CallRead × List ℕ). tells_end p.0) is) ∙ end))

-- all that came was read, and its stream is whole
pub read_whole : (k : CallRecord) (max : ℕ) (result : CallRead) (bytes : List ℕ)
    → (result, bytes) ≡ read_of k.looks.received max → ReadWhole k (tells_end result)
read_whole k max result bytes is active end =
    inr (ended-by max (unread_of k.looks.received) (is_complete k.looks.received) result bytes is end)

-- ---- it takes no slot

-- what a call received, but for its latest serial
abbrev received_by : CallLooks → Received
received_by k = record { kept = k.received.kept; read = k.received.read; ended = k.received.ended; previous = 0 }

read-takes : (s : Setup) (now left : ℕ) (k : CallRecord) (end : Bool) (bytes : List ℕ) → ReadWhole k end
    → TightOf (is_client s.kind) k
    → Takes (is_client s.kind) left k (record k { looks = after_read now end bytes k.looks })
read-takes s now left k end bytes whole t =
    record {
      more = more_looks k (after_read now end bytes k.looks) left (let less = beside_read now end bytes k.looks in
          omega arith);
      tight = record {
        whole = λ live ended. of end (whole live) live ended;
        first = t.first;
        unshut = t.unshut;
        served = t.served;
      };
    }
  where
    again : (e : Bool) → is_active k.life ≡ true → k.looks.received.ended ≡ true
        → Whole (received_by (after_read now e bytes k.looks))
    again e live ended =
        let w = whole_reads e bytes (received_by k.looks) (t.whole live ended) in
        record { complete = w.complete; used = w.used }

    of : (e : Bool) → (e ≡ true → (k.looks.received.ended ≡ true)
        ⊎ ((unread_of k.looks.received ≡ []) × (is_complete k.looks.received ≡ true)))
        → is_active k.life ≡ true → (e || k.looks.received.ended) ≡ true
        → Whole (received_by (after_read now e bytes k.looks))
    of false facts live ended = again false live ended
    of true facts live ended =
        (elim (facts refl) as (λ y. Whole (received_by (after_read now true bytes k.looks))) [
          | inl before ↦ again true live before
          | inr all ↦ (
              let w = end_reads bytes (received_by k.looks) all.0 all.1 in
              record { complete = w.complete; used = w.used })
        ])

-- at its end
pub roomy_looks_read : (s : Setup) (c : CallName) (now : ℕ) (end : Bool) (bytes : List ℕ) (l : Looks)
    → ((k : CallRecord) → call_at l c ≡ Some k → ReadWhole k end)
    → RoomyAt s l → RoomyAt s (on_looks c (after_read now end bytes) l)
roomy_looks_read s c now end bytes l whole r =
    roomy_takes c (λ k. record k { looks = after_read now end bytes k.looks }) (is_client s.kind)
    (shared_slots s) l.calls (λ k. refl)
    (λ k there t. read-takes s now (left_slots s l) k end bytes (whole k there) t) r

-- of a node that mirrors them
pub roomy_read_of : (class : List ℕ → Class) (n : NodeState) (l : Looks) (m : Mirrors class n l)
    (ch : Channel) (now : ℕ)
    (end : Bool) (bytes : List ℕ) → ((k : CallRecord) → latest l ch ≡ Some k → ReadWhole k end)
    → RoomyAt (setup_of class n) (on_looks (latest_name l ch) (after_read now end bytes) l)
roomy_read_of class n l m ch now end bytes whole =
    roomy_looks_read (setup_of class n) (latest_name l ch) now end bytes l whole m.roomy

-- ---- both steps are one

-- the end of a call that is read to its end
abbrev changed : ℕ → List ℕ → CallRecord → CallRecord
changed now bytes k = record k { looks = after_read now true bytes k.looks }

-- a read that answers no End leaves each life
pub not-ended : (x : Life) → after_end false x ≡ x
not-ended lives.Calling = refl
not-ended (lives.Ended end) = refl
not-ended lives.Waiting = refl
not-ended lives.Accepted = refl
not-ended lives.Finished = refl
not-ended (lives.Broken code) = refl
not-ended (lives.Over code) = refl

read_more : (c : CallName) (bytes : List ℕ) (l : Looks) (now : ℕ) (end : Bool) → now ≡ l.now → end ≡ false
    → on_looks c (after_read now end bytes) l ≡ read_done c end bytes l
read_more c bytes l now end at more =
    ap (λ (t : ℕ). on_looks c (after_read t end bytes) l) at
    ∙ ap (λ (m : Looks). on_looks c (after_read l.now end bytes) m)
    (sym (channel_same (channel_of c) (λ q. q) l (λ q. refl)))
    ∙ sym (ap (λ (b : Bool). on_looks c (after_read l.now end bytes) (acknowledged b c l)) more)
    ∙ sym (on-life-same c (on_looks c (after_read l.now end bytes) (acknowledged end c l)) end more)
  where
    on-life-same : (c : CallName) (m : Looks) (e : Bool) → e ≡ false → on_life c (after_end e) m ≡ m
    on-life-same c m e is =
        ap (λ (b : Bool). on_life c (after_end b) m) is ∙ ap (λ (ks : List CallRecord). record m { calls = ks })
        (all m.calls)
      where
        all : (ks : List CallRecord) → map (changed_if c (λ k. record k { life = after_end false k.life })) ks ≡ ks
        all [] = refl
        all (k ∷ ks) =
            ap (λ (j : CallRecord). j ∷ map (changed_if c (λ k. record k { life = after_end false k.life })) ks)
            (one (same_name k.name c))
            ∙ ap (λ (js : List CallRecord). k ∷ js) (all ks)
          where
            one : (b : Bool) → (if b then record k { life = after_end false k.life } else k) ≡ k
            one true = λ i. record k { life = not-ended k.life i }
            one false = refl

looked : (now : ℕ) (bytes : List ℕ) (o : Option CallRecord)
    → is_call (λ k. is_calling k.life) (option_map (changed now bytes) o) ≡ is_call (λ k. is_calling k.life) o
looked now bytes None = refl
looked now bytes (Some k) = refl

-- one that answers End ends the call behind what its end did
pub read_end : (ch : Channel) (bytes : List ℕ) (l : Looks) (now : ℕ) (end : Bool) → now ≡ l.now → end ≡ true
    → on_life (latest_name l ch) (after_end true)
    (on_channel ch
    (owing_ackall (is_call (λ k. is_calling k.life)
    (latest (on_looks (latest_name l ch) (after_read now end bytes) l) ch)))
    (on_looks (latest_name l ch) (after_read now end bytes) l))
    ≡ read_done (latest_name l ch) end bytes l
read_end ch bytes l now end at ends =
    (λ i. on_life (latest_name l ch) (after_end true)
    (on_channel ch
    (owing_ackall (is_call (λ k. is_calling k.life)
    (latest (on_looks (latest_name l ch) (after_read (at i) (ends i) bytes) l) ch)))
    (on_looks (latest_name l ch) (after_read (at i) (ends i) bytes) l)))
    ∙ ap (λ (b : Bool). on_life (latest_name l ch) (after_end true)
    (on_channel ch (owing_ackall b) (on_looks (latest_name l ch) (after_read l.now true bytes) l)))
    (ap (is_call (λ k. is_calling k.life))
    (latest_changed l ch (latest_name l ch) (changed l.now bytes) (λ k. refl) refl)
    ∙ looked l.now bytes (latest l ch))
    ∙ ap (λ (b : Bool). read_done (latest_name l ch) b bytes l) (sym ends)

-- a node that mirrors what its end did mirrors the read
pub mirrors_more : (class : List ℕ → Class) (n : NodeState) (c : CallName) (bytes : List ℕ) (l : Looks) (now : ℕ)
    (end : Bool) → now ≡ l.now → end ≡ false → Mirrors class n (on_looks c (after_read now end bytes) l)
    → Mirrors class n (read_done c end bytes l)
mirrors_more class n c bytes l now end at more m =
    subst (λ (x : Looks). Mirrors class n x) (read_more c bytes l now end at more) m
