-- Bytes are accepted.
use Rattle.std.proofs.Common.{◌≡◌, ◌<◌, ◌≤◌, ◌+◌, ◌*◌, ◌%◌}
use Rattle.std.proofs.Common.{map, ℕ, suc, List, [], ◌∷◌, ◌++◌, length, get_or}
use Rattle.std.proofs.Common.{set}
use Rattle.std.proofs.Common.{take, drop, None, sym, ap, subst, ◌∙◌, arith, append_assoc}
use Rattle.std.proofs.Common.{length-append}
use Rattle.std.proofs.lemmas.List.{length-map, append-nil}
use Rattle.rx_rules.specs.Sent.{Sent, opened}
use Rattle.rx_rules.specs.Sent.{after_write}
use Rattle.rx_pool.specs.Pool.{Slots}
use Rattle.rx_sendwin.specs.declared.piece.HeldPiece.{HeldPiece}
use Rattle.rx_sendwin.specs.Pieces.{seen_at, giving_at}
use Rattle.rx_sendwin.specs.Window.{SendWindow, StandsSent}
use Rattle.rx_sendwin.proofs.Payloads.{pushed, filled, none_behind, take_join}

-- ---- bytes are accepted

module _ (old new : Slots) (w : SendWindow) (s : Sent) (chunk : List ℕ) (pieces : List HeldPiece) where
  pub push_stands : StandsSent old w s → map (seen_at new) pieces ≡ map (seen_at old) w.pieces ++ chunk ∷ []
      → map giving_at pieces ≡ map giving_at w.pieces ++ None ∷ [] → w.total ≡ 1412 * (w.acked + length w.pieces)
      → length chunk ≤ 1412
      → StandsSent new (record w { total = w.total + length chunk; pieces = pieces }) (after_write chunk s)
  push_stands st seen givings full fits =
      let size : length (map (seen_at old) w.pieces) ≡ length w.pieces = length-map w.pieces (seen_at old) in
      let total = st.total in
      record {
        total = ap (λ n. n + length chunk) st.total ∙ sym (length-append s.said chunk);
        shut = st.shut;
        acked = st.acked;
        given = st.given;
        soft = st.soft;
        peer = st.peer;
        pieces =
            pushed (map (seen_at old) w.pieces) (map (seen_at new) pieces) s.said chunk w.acked seen
            (omega (arith, total, full, size)) fits st.pieces;
        givings = λ i. none_behind (map giving_at w.pieces) (map giving_at pieces) i givings ∙ st.givings i;
        orders = st.orders;
        since = st.since;
      }

  pub fill_stands : (place : ℕ) → StandsSent old w s
      → map (seen_at new) pieces ≡ set (map (seen_at old) w.pieces) place
      (get_or (map (seen_at old) w.pieces) place [] ++ chunk)
      → map giving_at pieces ≡ map giving_at w.pieces → place < length w.pieces → 1412 * (w.acked + place) ≤ w.total
      → w.total + length chunk ≤ 1412 * suc (w.acked + place)
      → StandsSent new (record w { total = w.total + length chunk; pieces = pieces }) (after_write chunk s)
  fill_stands place st seen givings within from fits =
      let size : length (map (seen_at old) w.pieces) ≡ length w.pieces = length-map w.pieces (seen_at old) in
      let total = st.total in
      record {
        total = ap (λ n. n + length chunk) st.total ∙ sym (length-append s.said chunk);
        shut = st.shut;
        acked = st.acked;
        given = st.given;
        soft = st.soft;
        peer = st.peer;
        pieces =
            filled (map (seen_at old) w.pieces) (map (seen_at new) pieces) s.said chunk w.acked place seen
            (omega (arith, within, size)) (omega (arith, from, total)) (omega (arith, fits, total)) st.pieces;
        givings = λ i. ap (λ xs. get_or xs i None) givings ∙ st.givings i;
        orders = st.orders;
        since = st.since;
      }

pub write_start : (pool : Slots) (w : SendWindow) (s : Sent) (bytes : List ℕ) → StandsSent pool w s →
    StandsSent pool w (after_write (take 0 bytes) s)
write_start pool w s bytes st =
    subst (λ said. StandsSent pool w (record s { said = said })) (sym (append-nil s.said)) st

pub write_next : (pool : Slots) (new : SendWindow) (s : Sent) (bytes rest chunk : List ℕ) (at n : ℕ) →
    rest ≡ drop at bytes → chunk ≡ take n rest →
    StandsSent pool new (after_write chunk (after_write (take at bytes) s)) →
    StandsSent pool new (after_write (take (at + n) bytes) s)
write_next pool new s bytes rest chunk at n from is st =
    let parts : take at bytes ++ chunk ≡ take (at + n) bytes = (
    ap (λ bs. take at bytes ++ bs) (is ∙ ap (take n) from) ∙ take_join bytes at n) in
    subst (λ said. StandsSent pool new (record s { said = said }))
    (append_assoc s.said (take at bytes) chunk ∙ ap (λ bs. s.said ++ bs) parts) st

module _ (total at room more free0 free held0 held acked count : ℕ) where
  -- a slot is free where a new piece is opened
  pub one_more : more ≤ free0 → free + held ≡ free0 + held0 → acked + held0 ≡ opened total
      → acked + held ≡ opened (total + at) → opened (total + room) ≤ opened total + more → at < count → count ≤ room
      → (total + at) % 1412 ≡ 0 → 0 < free
  one_more enough kept before now opens lt le full =
      omega (arith, enough, kept, before, now, opens, lt, le, full)
