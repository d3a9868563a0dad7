-- A data packet: whole calls.
use Rattle.std.proofs.Common.{◌≡◌, ◌⊎◌, inl, inr, ◌+◌}
use Rattle.std.proofs.Common.{Bool, ℕ}
use Rattle.std.proofs.Common.{refl, sym, ap, subst, ◌∙◌}
use Rattle.rx_model.specs.declared.answers.BadMsg.{BadMsg}
use Rattle.rx_model.specs.declared.answers.Took.{Took}
use Rattle.rx_model.specs.declared.answers.Took.TheVariants as tooks
use Rattle.rx_rules.specs.Received.{Packet, Received}
use Rattle.rx_rules.specs.Received.{has_slot}
use Rattle.rx_rules.specs.Received.{arrival_row}
use Rattle.rx_rules.specs.Received.{arrival_of, after_packet}
use Rattle.rx_pool.specs.Pool.{Slots}
use Rattle.rx_recvwin.specs.Places.{leading}
use Rattle.rx_recvwin.specs.Window.{RecvWindow, Window, window_of, Near, StandsFor, after_put, arrival_at}
use Rattle.rx_recvwin.specs.Window.{slot_behind}
use Rattle.rx_recvwin.proofs.Arriving.{put_near}
use Rattle.rx_recvwin.proofs.Judging.{arrival_is, arrival_seen, can_come, has_place, slot_is}

-- ---- whole calls

-- the row that the window finds is the rules'
pub row_is : (pool : Slots) (w : RecvWindow) (d : Received) (leadless : Bool) (left : ℕ) (p : Packet) (took : Took) →
    took ≡ arrival_row (arrival_at w (slot_behind leadless left p.seq (w.used + leading w.places)) p.seq p.piece.last) →
    StandsFor (window_of pool w) d → took ≡ arrival_row (arrival_of w.width (has_slot leadless left p.seq d) p d)
row_is pool w d leadless left p took judge s =
    judge
    ∙ ap (λ slot. arrival_row (arrival_at w slot p.seq p.piece.last)) (slot_is pool w d leadless left p.seq s)
    ∙ ap arrival_row
    (arrival_seen pool w (has_slot leadless left p.seq d) p.seq p.piece.last
    ∙ arrival_is (window_of pool w) d (has_slot leadless left p.seq d) p s)

-- a packet that is kept
pub kept_stands : (pool : Slots) (old : RecvWindow) (put new : Window) (d : Received) (slot : Bool) (p : Packet) →
    arrival_row (arrival_at old slot p.seq p.piece.last) ≡ tooks.Kept → put ≡ after_put p (window_of pool old) →
    ((r : Received) → Near put r → StandsFor new r) → StandsFor (window_of pool old) d →
    StandsFor new (after_packet tooks.Kept p d)
kept_stands pool old put new d slot p row e settled s =
    let at = has_place old slot p.seq p.piece.last row in
    let seen_row = ap arrival_row (sym (arrival_seen pool old slot p.seq p.piece.last)) ∙ row in
    let can = can_come (window_of pool old) d slot p s at.above at.within at.fits seen_row in
    let near = put_near (window_of pool old) d p s.near can in
    settled (after_packet tooks.Kept p d) (subst (λ (w : Window). Near w (after_packet tooks.Kept p d)) (sym e) near)

-- one that is refused, and counts as the latest
pub noted : (w : Window) (d : Received) (seq : ℕ) → StandsFor w d →
    StandsFor (record w { previous = seq }) (record d { previous = seq })
noted w d seq s =
    let sound = s.near.sound in
    let near = s.near in
    record {
      near = record {
        sound = record {
          fits = sound.fits;
          zero = sound.zero;
          once = sound.once;
          marked = sound.marked;
          last = sound.last;
          over = λ t. (let o = sound.over t in record { last = o.last; front = o.front; read = o.read });
        };
        done = near.done;
        some = near.some;
        size = near.size;
        ahead = near.ahead;
        within = near.within;
        count = near.count;
        offset = near.offset;
        short = near.short;
        marked = near.marked;
        greatest = near.greatest;
        ended = near.ended;
        previous = refl;
      };
      stops = s.stops;
    }

-- what they make of what was received
pub counts : (r : Received) (p : Packet) (took : Took) →
    (took ≡ tooks.Repeat) ⊎ ((took ≡ tooks.Beyond) ⊎ (took ≡ tooks.NoSlot)) →
    after_packet took p r ≡ record r { previous = p.seq }
counts r p took is =
    elim is as (λ _. after_packet took p r ≡ record r { previous = p.seq }) [
      | inl e ↦ ap (λ t. after_packet t p r) e
      | inr m ↦ (elim m as (λ _. after_packet took p r ≡ record r { previous = p.seq }) [
        | inl e ↦ ap (λ t. after_packet t p r) e
        | inr e ↦ ap (λ t. after_packet t p r) e
      ])
    ]

-- one that is refused so stands for what was received with it
pub noted_stands : (pool : Slots) (w : RecvWindow) (r : Received) (p : Packet) (took : Took) →
    (took ≡ tooks.Repeat) ⊎ ((took ≡ tooks.Beyond) ⊎ (took ≡ tooks.NoSlot)) → StandsFor (window_of pool w) r →
    StandsFor (window_of pool (record w { previous = p.seq })) (after_packet took p r)
noted_stands pool w r p took is s =
    let new = window_of pool (record w { previous = p.seq }) in
    subst (λ (q : Received). StandsFor new q) (sym (counts r p took is)) (noted (window_of pool w) r p.seq s)

either : {A B C : Type 0} → (A → C) → (B → C) → A ⊎ B → C
either {A} {B} {C} f g s = elim s as (λ _. C) [ inl a ↦ f a | inr b ↦ g b ]

-- every other answer but Kept makes nothing of it
pub changes_nothing : (r : Received) (p : Packet) (took : Took) →
    (took ≡ tooks.Clash) ⊎ ((took ≡ tooks.Strange) ⊎ ((took ≡ tooks.Heard) ⊎ ((took ≡ tooks.Stopped)
    ⊎ ((took ≡ tooks.Busy) ⊎ ((took ≡ tooks.NoRoom) ⊎ ((took ≡ tooks.Full) ⊎ ((took ≡ tooks.Old)
    ⊎ ((took ≡ tooks.Over) ⊎ ((took ≡ tooks.Unserved) ⊎ ((took ≡ tooks.Foreign)
    ⊎ ((b : BadMsg) × (took ≡ tooks.Bad b)))))))))))) → after_packet took p r ≡ r
changes_nothing r p took is =
    let f = λ (t : Took). after_packet t p r in
    (either (λ e. ap f e) (either (λ e. ap f e) (either (λ e. ap f e) (either (λ e. ap f e)
    (either (λ e. ap f e) (either (λ e. ap f e) (either (λ e. ap f e) (either (λ e. ap f e)
    (either (λ e. ap f e) (either (λ e. ap f e) (either (λ e. ap f e) (λ m. ap f m.1)))))))))))) is
