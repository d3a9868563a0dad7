-- What a packet that is kept makes of the window.
use Rattle.std.proofs.Common.{◌≡◌, inl, inr, ◌<◌, ◌≤◌, ◌+◌, ◌-◌, ◌^◌, nat_lt, max, cond}
use Rattle.std.proofs.Common.{is_some, true, false, ℕ, suc, ◌∷◌, length, set, Option}
use Rattle.std.proofs.Common.{Some}
use Rattle.std.proofs.Common.{None, refl, sym, ap, subst, ◌∙◌, arith}
use Rattle.std.proofs.lemmas.Bool.{cases_eq, cases_Bool, false≢true}
use Rattle.std.proofs.lemmas.Bool.Decides.{nat_tests}
use Rattle.std.proofs.lemmas.List.{length-set}
use Rattle.rx_model.specs.declared.answers.Took.TheVariants as tooks
use Rattle.rx_rules.specs.Received.{Piece, Packet, Received, packet_at, payload_of, greatest, last_seq}
use Rattle.rx_rules.specs.Received.{is_done}
use Rattle.rx_rules.specs.Received.{is_done_by, count_above, is_above}
use Rattle.rx_rules.specs.Received.{after_packet}
use Rattle.rx_rules.proofs.PacketLaws.{at_own, at_other, end_below, front_all}
use Rattle.rx_recvwin.specs.Places.{place_at}
use Rattle.rx_recvwin.specs.Window.{Window, Near, IsReceivable, after_put}
use Rattle.rx_recvwin.proofs.PlaceLaws.{some_same, place_set_own, place_set_other, count_put}
use Rattle.rx_recvwin.proofs.Nearness.{is_none}

-- ---- a packet comes

-- the conditions under which a packet is kept
pub record CanCome (w : Window) (d : Received) (p : Packet) : Type 0 where
  pub above : w.used < p.seq
  pub within : p.seq ≤ w.used + w.width
  pub fits : p.seq < 2 ^ 32 - 1
  pub new : is_some (packet_at d.kept p.seq) ≡ false
  pub before : is_above (last_seq d.kept) p.seq ≡ false
  pub after : p.piece.last ≡ true → greatest d.kept ≤ p.seq

not_above : (l : Option ℕ) (m seq : ℕ) → l ≡ Some m → is_above l seq ≡ false → seq ≤ m
not_above l m seq e h =
    let t : nat_lt m seq ≡ false = ap (λ o. is_above o seq) (sym e) ∙ h in grind (arith, nat_tests, t)

-- what holds of all that is received holds behind a packet that is kept
pub sound_more : (w : Window) (d : Received) (p : Packet) → IsReceivable d → CanCome w d p →
    IsReceivable (after_packet tooks.Kept p d)
sound_more w d p sound can =
    let seq = p.seq in
    let last = p.piece.last in
    let fits = sound.fits in
    let below = can.fits in
    let up = can.above in
    record {
      fits = omega (arith, fits, below);
      zero = at_other seq p.piece d.kept 0 (λ e. omega (arith, e, up)) ∙ sound.zero;
      once = (is_none (packet_at d.kept seq) can.new, sound.once);
      marked = λ k b e l.
          elim (cases_eq seq k) as (λ _. (k ≡ max seq (greatest d.kept)) × (cond last (Some seq) (last_seq d.kept)
          ≡ Some k)) [
            | inl same ↦ (
                let own = sym (at_own seq p.piece d.kept) ∙ ap (packet_at (p ∷ d.kept)) same ∙ e in
                let is : p.piece ≡ b = some_same p.piece b own in
                let marked : last ≡ true = ap (λ (x : Piece). x.last) is ∙ l in
                let most = can.after marked in
                (omega (arith, same, most), rw marked (ap (λ j. Some j) same)))
            | inr apart ↦ (
                let old = sound.marked k b (sym (at_other seq p.piece d.kept k apart) ∙ e) l in
                let under = not_above (last_seq d.kept) k seq old.1 can.before in
                let top = old.0 in
                elim (cases_Bool last)
                as (λ _. (k ≡ max seq (greatest d.kept)) × (cond last (Some seq) (last_seq d.kept) ≡ Some k)) [
                  | inl marked ↦ absurd (let most = can.after marked in apart (omega (arith, most, top, under)))
                  | inr plain ↦ (omega (arith, top, under), rw plain old.1)
                ])
          ];
      last = λ l e. elim (cases_Bool last) as (λ _. l ≡ max seq (greatest d.kept)) [
        | inl t ↦ (
            let is : seq ≡ l = some_same seq l (rw t at e) in
            let most = can.after t in
            omega (arith, is, most))
        | inr f ↦ (
            let is : last_seq d.kept ≡ Some l = rw f at e in
            let top = sound.last l is in
            let under = not_above (last_seq d.kept) l seq is can.before in
            omega (arith, top, under))
      ];
      over = λ ended. absurd (
          let over = sound.over ended in
          let under = not_above (last_seq d.kept) (greatest d.kept) seq over.last can.before in
          let front = over.front in
          let back : suc (seq - 1) ≡ seq = omega (arith, up) in
          let kept = front_all d.kept (seq - 1) (omega (arith, under, front, up)) in
          false≢true (sym can.new ∙ ap (λ k. is_some (packet_at d.kept k)) (sym back) ∙ kept));
    }

pub put_near : (w : Window) (d : Received) (p : Packet) → Near w d → CanCome w d p →
    Near (after_put p w) (after_packet tooks.Kept p d)
put_near w d p near can =
    let seq = p.seq in
    let j = seq - suc w.used in
    let kept = p ∷ d.kept in
    let up = can.above in
    let most = can.within in
    let within = near.within in
    let size = near.size in
    let back : suc (w.used + j) ≡ seq = omega (arith, up) in
    let gone : packet_at d.kept seq ≡ None = is_none (packet_at d.kept seq) can.new in
    let empty : place_at w.ahead j ≡ None = near.ahead j ∙ ap (packet_at d.kept) back ∙ gone in
    let over : nat_lt w.used seq ≡ true = grind (arith, nat_tests, up) in
    let room : j < length w.ahead = omega (arith, up, most, size) in
    let done_same : (k : ℕ) → k < w.used → is_done (after_packet tooks.Kept p d) (suc k) ≡ is_done d (suc k) =
    (λ k lt i.
    is_done_by d.ended (end_below seq p.piece d.kept (suc k) (omega (arith, lt, up)) i) (length d.read)
    (at_other seq p.piece d.kept (suc k) (λ e. omega (arith, e, lt, up)) i)) in
    record {
      sound = sound_more w d p near.sound can;
      done = λ k lt. done_same k lt ∙ near.done k lt;
      some = near.some;
      size = length-set w.ahead j (Some p.piece) ∙ near.size;
      ahead = λ i.
          elim (cases_eq j i) as (λ _. place_at (set w.ahead j (Some p.piece)) i ≡ packet_at kept (suc (w.used + i))) [
            | inl e ↦ (
                let is : seq ≡ suc (w.used + i) = omega (arith, e, up) in
                ap (place_at (set w.ahead j (Some p.piece))) (sym e) ∙ place_set_own w.ahead j (Some p.piece) room
                ∙ sym (at_own seq p.piece d.kept) ∙ ap (packet_at kept) is)
            | inr apart ↦ (
                let other = at_other seq p.piece d.kept (suc (w.used + i)) (λ e. apart (omega (arith, e, up))) in
                place_set_other w.ahead j i (Some p.piece) apart ∙ near.ahead i ∙ sym other)
          ];
      within = omega (arith, within, most);
      count =
          count_put w.ahead j p.piece room empty ∙ ap suc near.count
          ∙ sym (ap (λ b. cond b (suc (count_above w.used d.kept)) (count_above w.used d.kept)) over);
      offset = ap (λ n. n + w.offset) (end_below seq p.piece d.kept w.used up) ∙ near.offset;
      short = elim (cases_eq seq (suc w.used)) as (λ _. w.offset ≤ length (payload_of (packet_at kept (suc w.used)))) [
        | inl e ↦ (
            let none : packet_at d.kept (suc w.used) ≡ None = ap (packet_at d.kept) (sym e) ∙ gone in
            let short : w.offset ≤ 0 = subst (λ o. w.offset ≤ length (payload_of o)) none near.short in
            omega (arith, short))
        | inr apart ↦ (
            let other = sym (at_other seq p.piece d.kept (suc w.used) apart) in
            subst (λ o. w.offset ≤ length (payload_of o)) other near.short)
      ];
      marked = ap (λ l. cond p.piece.last (Some seq) l) near.marked;
      greatest = let g = near.greatest in omega (arith, g);
      ended = near.ended;
      previous = refl;
    }
