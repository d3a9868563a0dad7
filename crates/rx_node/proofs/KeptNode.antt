-- What every node keeps stays where its table changes but for which ends its seats name.
use Rattle.std.proofs.Common.{◌≡◌, ◌<◌, ◌+◌, ◌/◌, ◌%◌, ◌^◌, ℕ, zero, suc, List, [], ◌∷◌, length, map, Option, Some}
use Rattle.std.proofs.Common.{refl, ◌∙◌, ap, sym, subst, arith}
use Rattle.rx_rules.specs.Classes.{Class}
use Rattle.rx_model.specs.Names.{Connection}
use Rattle.rx_table.specs.declared.seat.Seat.{Seat}
use Rattle.rx_table.specs.Records.{ConnRecord, Records, changed_at, names, on_place, record_at, seat_at, with_seat}
use Rattle.rx_node.specs.Node.{IsSeated, IsSetUp, KeepsNode, NodeState}
use Rattle.rx_node.proofs.Steps.ConnSteps.{record-from, seats-same}
use Rattle.rx_node.proofs.Steps.TableSteps.{changed-length, decided, record_seated, seat_changed, seat_stays, seated}

-- another seat names the same end
pub record FromSeat (t : Records) (key : ℕ) (after : Seat) : Type 0 where
  pub before : Seat
  pub there : seat_at t key ≡ Some before
  pub live : after.live ≡ before.live

-- another table has as many records of the same connections, and its seats name the same ends
pub record Alike (t new : Records) : Type 0 where
  pub room : new.room ≡ t.room
  pub count : length new.conns ≡ length t.conns
  pub names_same : names new ≡ names t
  pub seats : (key : ℕ) (after : Seat) → seat_at new key ≡ Some after → FromSeat t key after
  pub records : (place : ℕ) (r : ConnRecord) → record_at new place ≡ Some r
      → (b : ConnRecord) × (record_at t place ≡ Some b) × (r.connection ≡ b.connection)

module _ (class : List ℕ → Class) (n : NodeState) (table : Records) (like : Alike n.table table) where
  -- it is set up as before
  pub still_set_up : IsSetUp class n → IsSetUp class (record n { table = table })
  still_set_up s =
      record {
        fits = s.fits;
        room = like.room ∙ s.room;
        few = (let low = s.few in let count = like.count in omega arith);
        links = s.links ∙ sym like.count;
        lives = s.lives;
        client = s.client;
        calls = s.calls;
        pace = s.pace;
        shared = s.shared;
        within = s.within;
      }

  -- and seated
  pub still_seated : IsSeated n → IsSeated (record n { table = table })
  still_seated s =
      record {
        there = λ key seat end is names. (
            let b = like.seats key seat is in s.there key b.before end b.there (sym b.live ∙ names));
        apart = λ a b here there end is_here is_there names_here names_there. (
            let p = like.seats a here is_here in
            let q = like.seats b there is_there in
            s.apart a b p.before q.before end p.there q.there (sym p.live ∙ names_here) (sym q.live ∙ names_there));
        idle = λ key seat end is names. (
            let b = like.seats key seat is in s.idle key b.before end b.there (sym b.live ∙ names));
        kinds = λ key seat end life is names its. (
            let b = like.seats key seat is in s.kinds key b.before end life b.there (sym b.live ∙ names) its);
        count = s.count;
        cids = λ place r is. (
            let b = like.records place r is in
            subst (λ (x : Connection). x.cid + 3 < 2 ^ 32) (sym b.2) (s.cids place b.0 b.1));
      }

  -- it is the node that it was
  pub still_node : KeepsNode n (record n { table = table })
  still_node =
      record { kind = refl; limits = refl; prompt = refl; secret = refl; moment = refl; names = like.names_same }

-- ---- changes of a table

pub names-changed : (rs : List ConnRecord) (place : ℕ) (g : ConnRecord → ConnRecord)
    → ((r : ConnRecord) → (g r).connection ≡ r.connection)
    → map (λ r. r.connection) (changed_at place g rs) ≡ map (λ r. r.connection) rs
names-changed [] place g keeps = refl
names-changed (r ∷ rs) zero g keeps = ap (λ (x : Connection). x ∷ map (λ r. r.connection) rs) (keeps r)
names-changed (r ∷ rs) (suc place) g keeps =
    ap (λ (xs : List Connection). r.connection ∷ xs) (names-changed rs place g keeps)

-- a record changes but for its name and its seats
pub alike_on_place : (t : Records) (place : ℕ) (g : ConnRecord → ConnRecord)
    → ((r : ConnRecord) → (g r).connection ≡ r.connection) → ((r : ConnRecord) → (g r).seats ≡ r.seats)
    → Alike t (on_place place g t)
alike_on_place t place g names seats =
    record {
      room = refl;
      count = changed-length t.conns place g;
      names_same = names-changed t.conns place g names;
      seats = λ key after is. record { before = after; there = sym (seats-same t place g seats key) ∙ is; live = refl };
      records = λ q r is. record-from t place g names q r is;
    }

-- a seat that names the same end
pub alike_with_seat : (t : Records) (key : ℕ) (old after : Seat) → seat_at t key ≡ Some old → after.live ≡ old.live
    → Alike t (with_seat t key after)
alike_with_seat t key old after there live =
    record {
      room = refl;
      count = changed-length t.conns (key / 4) (seated (key % 4) after);
      names_same = names-changed t.conns (key / 4) (seated (key % 4) after) (λ r. refl);
      seats = λ k s is.
          decided (FromSeat t k s) key k
          (λ same. record {
            before = old;
            there = ap (λ (j : ℕ). seat_at t j) (sym same) ∙ there;
            live = ap (λ (o : Option ℕ). o)
                ((let both : Some after ≡ Some s = sym (seat_changed t key old after there)
                ∙ ap (λ (j : ℕ). seat_at (with_seat t key after) j) same ∙ is in
                let one : s ≡ after = cc (both) in
                ap (λ (u : Seat). u.live) one) ∙ live);
          })
          (λ apart. record { before = s; there = sym (seat_stays t key k after apart) ∙ is; live = refl });
      records = λ place r is. (
          let b = record_seated t key after place r is in (b.before, b.there, b.same.connection));
    }
