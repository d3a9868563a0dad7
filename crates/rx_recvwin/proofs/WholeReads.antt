-- What a read answers.
use Rattle.std.proofs.Common.{◌≡◌, ◌<◌, ◌≤◌, ◌+◌, ◌-◌, min, Bool, true, false, ℕ, suc}
use Rattle.std.proofs.Common.{zero, List, [], ◌∷◌, ◌++◌, length, take, drop, refl, sym, ap, subst}
use Rattle.std.proofs.Common.{◌∙◌, arith, append_assoc, length-append}
use Rattle.std.proofs.lemmas.List.{append-nil, length-drop, drop-drop}
use Rattle.rx_model.specs.declared.answers.CallRead.TheVariants as reads
use Rattle.rx_rules.specs.Received.{Received, last_seq, front_of}
use Rattle.rx_rules.specs.Received.{heard_of, unread_of, is_within, read_from, read_of}
use Rattle.rx_rules.specs.Received.{after_read}
use Rattle.rx_recvwin.specs.Places.{leading}
use Rattle.rx_recvwin.specs.Window.{Window, Near, StandsFor, FirstRead, AllRead, SomeRead, read_more}
use Rattle.rx_recvwin.proofs.Nearness.{front_is}
use Rattle.rx_recvwin.proofs.ReadLists.{drop_more_at, fitting, nothing, take_join}
use Rattle.rx_recvwin.proofs.Reading.{end_near}

-- ---- whole reads

-- the unread bytes behind some that were read
unread_behind : (d : Received) (bytes : List ℕ) → unread_of (read_more bytes d) ≡ drop (length bytes) (unread_of d)
unread_behind d bytes =
    ap (λ n. drop n (heard_of d.kept)) (length-append d.read bytes)
    ∙ sym (drop-drop (length bytes) (length d.read) (heard_of d.kept))

take_front : {X : Type 0} (given rest : List X) (at n : ℕ) → length given ≡ at →
    take (at + n) (given ++ rest) ≡ given ++ take n rest
take_front [] rest at n e = ap (λ m. take m rest) (omega (arith, e))
take_front (x ∷ given) rest zero n e = absurd (omega (arith, e))
take_front (x ∷ given) rest (suc at) n e =
    let is : suc at + n ≡ suc (at + n) = omega arith in
    ap (λ m. take m (x ∷ given ++ rest)) is ∙ ap (λ ys. x ∷ ys) (take_front given rest at n (omega (arith, e)))

-- more was read behind what was read
read_on : (w : Window) (d : Received) (a b c : List ℕ) → c ≡ a ++ b → StandsFor w (read_more b (read_more a d)) →
    StandsFor w (read_more c d)
read_on w d a b c is s =
    let same : (d.read ++ a) ++ b ≡ d.read ++ c = append_assoc d.read a b ∙ ap (λ xs. d.read ++ xs) (sym is) in
    subst (λ (bytes : List ℕ). StandsFor w (record d { read = bytes })) same s

pub some_next : (w new : Window) (d : Received) (at n : ℕ) (to given rest : List ℕ) → length given ≡ at →
    given ≡ take at to → SomeRead w d at to → FirstRead new (read_more (take at to) d) n rest →
    SomeRead new d (at + n) (given ++ rest)
some_next w new d at n to given rest size is so_far next =
    let front : length (take at to) ≡ at = sym (ap length is) ∙ size in
    let behind : unread_of (read_more (take at to) d) ≡ drop at (unread_of d) = (
    unread_behind d (take at to) ∙ ap (λ m. drop m (unread_of d)) front) in
    let left : length (unread_of (read_more (take at to) d)) ≡ length (unread_of d) - at = (
    ap length behind ∙ length-drop at (unread_of d)) in
    let fits = next.some.most in
    let room = next.some.fits in
    let before = so_far.most in
    let parts : take (at + n) (given ++ rest) ≡ take at to ++ take n rest = (
    take_front given rest at n size ∙ ap (λ xs. xs ++ take n rest) is) in
    let both : length (given ++ rest) ≡ at + length rest = length-append given rest ∙ ap (λ m. m + length rest) size in
    record {
      stands = read_on new d (take at to) (take n rest) (take (at + n) (given ++ rest)) parts next.some.stands;
      bytes = parts ∙ (λ i. so_far.bytes i ++ (next.some.bytes ∙ ap (take n) behind) i) ∙ take_join (unread_of d) at n;
      most = omega (arith, left, fits, before);
      fits = omega (arith, both, room);
    }

module _ (w new : Window) (d : Received) (room at n : ℕ) (to given rest : List ℕ) where
  pub some_end : at < room → n ≡ 0 → length given ≡ at → given ≡ take at to → SomeRead w d at to
      → FirstRead new (read_more (take at to) d) n rest → AllRead new d room at (given ++ rest)
  some_end less e size is so_far next =
      let front : length (take at to) ≡ at = sym (ap length is) ∙ size in
      let behind : unread_of (read_more (take at to) d) ≡ drop at (unread_of d) = (
      unread_behind d (take at to) ∙ ap (λ m. drop m (unread_of d)) front) in
      let left : length (drop at (unread_of d)) ≡ 0 = ap length (sym behind ∙ next.none e) in
      let before = so_far.most in
      let upto : length (unread_of d) ≤ at = omega (arith, left, length-drop at (unread_of d)) in
      let some = some_next w new d at n to given rest size is so_far next in
      record {
        some = subst (λ m. SomeRead new d m (given ++ rest)) (omega (arith, e)) some;
        count = omega (arith, upto, before, less);
      }

pub some_all : (w : Window) (d : Received) (room at : ℕ) (to : List ℕ) → room ≤ at → at ≤ room → SomeRead w d at to →
    AllRead w d room at to
some_all w d room at to le ge some =
    (let most = some.most in record { some = some; count = omega (arith, le, ge, most) })

-- ---- what a read answers

got_by : (max : ℕ) (unread : List ℕ) (whole : Bool) → 0 < min max (length unread) →
    (reads.Got (min max (length unread)), take max unread) ≡ read_from max unread whole
got_by max [] whole lt = absurd (omega (arith, lt))
got_by max (x ∷ xs) whole lt = refl

-- some bytes were given
pub read_got : (w : Window) (d : Received) (room n : ℕ) (to : List ℕ) → 0 < n → AllRead w d room n to →
    (reads.Got n, take n to) ≡ read_of d room
read_got w d room n to lt all =
    let count = all.count in
    let bytes = all.some.bytes ∙ sym (fitting (unread_of d) room n count) in
    (λ i. (reads.Got (count i), bytes i))
    ∙ got_by room (unread_of d) (is_within (last_seq d.kept) (front_of d.kept)) (omega (arith, lt, count))

-- nothing was unread
pub stood : (w : Window) (d : Received) (room n : ℕ) (to : List ℕ) → 0 < room → n ≤ 0 → AllRead w d room n to →
    (unread_of d ≡ []) × StandsFor w (read_more [] d)
stood w d room n to positive le all =
    let count = all.count in
    let zero : n ≡ 0 = omega (arith, le) in (
      nothing (unread_of d) (omega (arith, count, le, positive)),
      subst (λ m. StandsFor w (read_more (take m to) d)) zero all.some.stands,
    )

unread_again : (d : Received) → unread_of (read_more [] d) ≡ unread_of d
unread_again d = ap (λ bytes. drop (length bytes) (heard_of d.kept)) (append-nil d.read)

pub read_end : (w new : Window) (d : Received) (room n : ℕ) (to : List ℕ) → 0 < room → n ≤ 0 →
    is_within w.last (w.used + leading w.ahead) ≡ true →
    ((d : Received) → Near (record w { ended = true }) d → StandsFor new d) → AllRead w d room n to →
    ((reads.End, take 0 to) ≡ read_of d room) × StandsFor new (after_read true (take 0 to) d)
read_end w new d room n to positive le whole settled all =
    let facts = stood w d room n to positive le all in
    let near = facts.1.near in
    let is : is_within (last_seq d.kept) (front_of d.kept) ≡ true = (
    (λ i. is_within (sym near.marked i) (front_is w (read_more [] d) near i)) ∙ whole) in (
      sym ((λ i. read_from room (facts.0 i) (is i))),
      settled (after_read true [] d) (end_near w (read_more [] d) facts.1 (unread_again d ∙ facts.0) is),
    )

pub read_not_yet : (w : Window) (d : Received) (room n : ℕ) (to : List ℕ) → 0 < room → n ≤ 0 →
    is_within w.last (w.used + leading w.ahead) ≡ false → AllRead w d room n to →
    ((reads.NotYet, take 0 to) ≡ read_of d room) × StandsFor w (after_read false (take 0 to) d)
read_not_yet w d room n to positive le whole all =
    let facts = stood w d room n to positive le all in
    let near = facts.1.near in
    let is : is_within (last_seq d.kept) (front_of d.kept) ≡ false = (
    (λ i. is_within (sym near.marked i) (front_is w (read_more [] d) near i)) ∙ whole) in
    (sym ((λ i. read_from room (facts.0 i) (is i))), facts.1)

drop_front : {X : Type 0} (given rest : List X) (at n : ℕ) → length given ≡ at →
    drop (at + n) (given ++ rest) ≡ drop n rest
drop_front given rest at n e = drop_more_at given rest n (at + n) (omega (arith, e))

-- what lies behind the bytes given stays
pub rest_next : (first before given back after : List ℕ) (at n : ℕ) → length given ≡ at → back ≡ drop at before →
    drop n after ≡ drop n back → drop at before ≡ drop at first → drop (at + n) (given ++ after) ≡ drop (at + n) first
rest_next first before given back after at n size is same so_far =
    drop_front given after at n size ∙ same ∙ ap (drop n) (is ∙ so_far) ∙ drop-drop n at first
