-- Some bytes are read, or the end.
use Rattle.std.proofs.Common.{◌≡◌, ◌<◌, ◌≤◌, ◌+◌, min, nat_le, cond, Bool, true, false, ℕ, suc}
use Rattle.std.proofs.Common.{List, [], ◌++◌, length, take, drop, Option, Some, None, refl, sym, ap, subst}
use Rattle.std.proofs.Common.{◌∙◌, arith, length-append}
use Rattle.std.proofs.lemmas.Bool.Decides.{nat_tests}
use Rattle.std.proofs.lemmas.List.{append-nil, length-drop, length-take-le}
use Rattle.std.proofs.lemmas.List.{take-append-le}
use Rattle.rx_rules.specs.Received.{Piece, Received, packet_at, payload_of, last_seq, front_of}
use Rattle.rx_rules.specs.Received.{end_of, heard_of, is_done_by, unread_of, is_within}
use Rattle.rx_recvwin.specs.Places.{place_at}
use Rattle.rx_recvwin.specs.Window.{Window, Near, StandsFor, FirstRead, read_more}
use Rattle.rx_rules.proofs.PacketLaws.{end_is}
use Rattle.rx_recvwin.proofs.Nearness.{first_is}
use Rattle.rx_recvwin.proofs.ReadLists.{fitting, none}
use Rattle.rx_recvwin.proofs.Unread.{done_ended, first_empty, first_unread, front_most, read_most, within_last}

-- ---- more is read

done_more : (o : Option Piece) (ended : Bool) (end read more : ℕ) → read ≤ more → is_done_by ended end read o ≡ true →
    is_done_by ended end more o ≡ true
done_more None ended end read more le h = h
done_more (Some b) ended end read more le h =
    (elim b.last as (λ l. cond l ended (nat_le end read) ≡ true → cond l ended (nat_le end more) ≡ true) [
      | true ↦ λ h. h
      | false ↦ λ h. grind (arith, nat_tests, h, le)
    ]) h

pub read_near : (w : Window) (d : Received) (bytes : List ℕ) → StandsFor w d →
    length bytes ≤ length (drop w.offset (payload_of (packet_at d.kept (suc w.used)))) →
    length bytes ≤ length (unread_of d) → Near (record w { offset = w.offset + length bytes }) (read_more bytes d)
read_near w d bytes s fits left =
    let near = s.near in
    let sound = near.sound in
    let before = near.offset in
    let short = near.short in
    let here = payload_of (packet_at d.kept (suc w.used)) in
    let size = length-drop w.offset here in
    let more : length (d.read ++ bytes) ≡ length d.read + length bytes = length-append d.read bytes in
    record {
      sound = record {
        fits = sound.fits;
        zero = sound.zero;
        once = sound.once;
        marked = sound.marked;
        last = sound.last;
        over = λ t. (
            let o = sound.over t in
            let all = o.read in
            let heard = end_is d.kept (front_of d.kept) in
            let unread = length-drop (length d.read) (heard_of d.kept) in
            record { last = o.last; front = o.front; read = omega (arith, all, heard, unread, left, more) });
      };
      done = λ k lt. done_more (packet_at d.kept (suc k)) d.ended (end_of d.kept (suc k)) (length d.read)
          (length (d.read ++ bytes)) (omega (arith, more)) (near.done k lt);
      some = near.some;
      size = near.size;
      ahead = near.ahead;
      within = near.within;
      count = near.count;
      offset = omega (arith, before, more);
      short = omega (arith, short, fits, size);
      marked = near.marked;
      greatest = near.greatest;
      ended = near.ended;
      previous = near.previous;
    }

module _ (w new : Window) (d : Received) (n : ℕ) (from old to : List ℕ) where
  pub first_read : 0 < length old → length to ≡ length old → from ≡ drop w.offset (payload_of (place_at w.ahead 0))
      → n ≡ min (length old) (length from) → take n to ≡ take (length old) from
      → ((d : Received) → Near (record w { offset = w.offset + n }) d → StandsFor new d) → StandsFor w d
      → FirstRead new d n to
  first_read room wide is count bytes settled s =
      let near = s.near in
      let first = first_is w d near in
      let here : from ≡ drop w.offset (payload_of (packet_at d.kept (suc w.used))) = (
      is ∙ ap (λ o. drop w.offset (payload_of o)) first) in
      let more = first_unread w d near in
      let whole : unread_of d ≡ from ++ more.0 = more.1 ∙ ap (λ xs. xs ++ more.0) (sym here) in
      let size : length (unread_of d) ≡ length from + length more.0 = ap length whole ∙ length-append from more.0 in
      let part : n ≤ length from = omega (arith, count) in
      let within : n ≤ length (unread_of d) = omega (arith, part, size) in
      let same : length from ≡ length (drop w.offset (payload_of (packet_at d.kept (suc w.used)))) = ap length here in
      let fits : n ≤ length to = omega (arith, count, wide) in
      let given : length (take n to) ≡ n = length-take-le n to fits in
      let after = read_near w d (take n to) s (omega (arith, part, same, given)) (omega (arith, within, given)) in
      record {
        some = record {
          stands = settled (read_more (take n to) d)
              (subst (λ m. Near (record w { offset = w.offset + m }) (read_more (take n to) d)) given after);
          bytes = bytes ∙ fitting from (length old) n count
              ∙ sym (ap (take n) whole ∙ take-append-le n from more.0 part);
          most = within;
          fits = fits;
        };
        none = λ e. first_empty w d s (omega (arith, e, count, same, room));
      }

-- where nothing of the first packet is unread, none is given, and the window stays what it was
pub first_none : (w : Window) (d : Received) (from old to : List ℕ) → 0 < length old →
    from ≡ drop w.offset (payload_of (place_at w.ahead 0)) → 0 ≡ min (length old) (length from) → StandsFor w d →
    FirstRead w d 0 to
first_none w d from old to wide is count s =
    let here : from ≡ drop w.offset (payload_of (packet_at d.kept (suc w.used))) = (
    is ∙ ap (λ o. drop w.offset (payload_of o)) (first_is w d s.near)) in
    let same = ap length here in
    record {
      some = record {
        stands = subst (λ xs. StandsFor w (record d { read = xs })) (sym (append-nil d.read)) s;
        bytes = refl;
        most = omega arith;
        fits = omega arith;
      };
      none = λ e. first_empty w d s (omega (arith, count, same, wide));
    }

-- ---- the end

pub end_near : (w : Window) (d : Received) → StandsFor w d → unread_of d ≡ [] →
    is_within (last_seq d.kept) (front_of d.kept) ≡ true → Near (record w { ended = true }) (record d { ended = true })
end_near w d s none whole =
    let near = s.near in
    let sound = near.sound in
    let left : length (drop (length d.read) (heard_of d.kept)) ≡ 0 = ap length none in
    let unread = length-drop (length d.read) (heard_of d.kept) in
    let heard = end_is d.kept (front_of d.kept) in
    let most = read_most w d near in
    record {
      sound = record {
        fits = sound.fits;
        zero = sound.zero;
        once = sound.once;
        marked = sound.marked;
        last = sound.last;
        over = λ t. (
            let l = within_last (last_seq d.kept) (front_of d.kept) whole in
            let top = sound.last l.0 l.1 in
            let within = front_most d.kept in
            let reached = l.2 in
            record {
              last = l.1 ∙ ap (λ k. Some k) top;
              front = omega (arith, top, within, reached);
              read = omega (arith, left, unread, heard, most);
            });
      };
      done =
          λ k lt. done_ended (packet_at d.kept (suc k)) d.ended (end_of d.kept (suc k)) (length d.read)
          (near.done k lt);
      some = near.some;
      size = near.size;
      ahead = near.ahead;
      within = near.within;
      count = near.count;
      offset = near.offset;
      short = near.short;
      marked = near.marked;
      greatest = near.greatest;
      ended = refl;
      previous = near.previous;
    }
