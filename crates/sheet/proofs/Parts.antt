-- 01, The sheet, byte by byte: a graph is its fixed part, a part for each actor and a part for each channel. What is read or
-- written of several parts is what is read or written of each, one after the other.
use mathlib.Core.Path.{◌≡◌, refl, sym, ◌∙◌}
use mathlib.Core.List.{List, [], ◌∷◌, ◌++◌, append_assoc, append-nil}
use Prim.Native.Nat.{ℕ, suc, ◌+◌, ◌-◌, ◌*◌, ◌/◌, ◌%◌, ◌≤◌, ◌<◌}
use native.Mathlib.Nat.{mul-le-mul_right, sub-zero, div-one}
use native.Mathlib.Omega.{arith}
use lib.ListN.{length, get_or, drop}
use lib.Seq.{drop-drop, get_or-drop, sets, sets-eq}
use borrow.Rule.Slice.PartMut.{put_mid, mid_of}
use Rattle.std.proofs.lemmas.Slice.{put_mid-paste}
use Rattle.std.proofs.lemmas.List.Edits.{paste_all}
use Rattle.sheet.specs.Field.{Field}
use Rattle.sheet.specs.Layout.{fixed_part, actor_part, channel_part, times, layout, total, in_bytes, in_numbers}
use Rattle.sheet.specs.Sizes.{Sizes}
use Rattle.sheet.specs.Fields.{big_endian, to_bytes, numbers, bytes}
use Rattle.sheet.specs.Check.{actor_count, channel_count, stretch}
use Rattle.sheet.specs.Forms.{layout_of, graphs_numbers, graphs_bytes}
use Rattle.sheet.proofs.GraphLayout.{length_fields, total_times, layout_is}
use Rattle.sheet.proofs.Fields.{big_endian_one, to_bytes_length, numbers_length, bytes_length}
use Rattle.sheet.proofs.Filling.{Filling, filling_part, filling_end}

-- One form made of the other, field by field: a field takes up `from` where it is read and `to` where it is written.
pub record Makes {A : Type 0} (write : List Field → List ℕ → List A) (from to : Field → ℕ) : Type 0 where
  pub empty : (s : List ℕ) → write [] s ≡ []
  pub append : (L M : List Field) (s : List ℕ) → write (L ++ M) s ≡ write L s ++ write M (drop (total from L) s)
  pub count : (L : List Field) (s : List ℕ) → length (write L s) ≡ total to L
  pub fixed_any : (a : ℕ) (s : List ℕ) → write (fixed_part a) s ≡ write (fixed_part 0) s
  pub channel_any : (a : ℕ) (s : List ℕ) → write (channel_part a) s ≡ write (channel_part 0) s

numbers_append : (L M : List Field) (s : List ℕ) → numbers (L ++ M) s ≡ numbers L s ++ numbers M (drop (total in_bytes L) s)
unfolding numbers total
numbers_append [] M s = refl
numbers_append (f ∷ L) M s = rw (numbers_append L M (drop f.width s), drop-drop)

bytes_append : (L M : List Field) (l : List ℕ) → bytes (L ++ M) l ≡ bytes L l ++ bytes M (drop (total in_numbers L) l)
unfolding bytes total
bytes_append [] M l = refl
bytes_append (f ∷ L) M l = rw (bytes_append L M (drop 1 l), drop-drop, append_assoc)

-- Numbers out of bytes.
pub unpacks : Makes numbers in_bytes in_numbers
unfolding numbers fixed_part channel_part
unpacks =
    record {
      empty = λ s. refl;
      append = numbers_append;
      count = λ L s. numbers_length L s ∙ length_fields L;
      fixed_any = λ a s. refl;
      channel_any = λ a s. refl;
    }

-- Bytes out of numbers.
pub packs : Makes bytes in_numbers in_bytes
unfolding bytes fixed_part channel_part
packs =
    record { empty = λ l. refl; append = bytes_append; count = bytes_length; fixed_any = λ a l. refl; channel_any = λ a l. refl }

-- Several graphs are made one after the other.
pub record OneByOne {A : Type 0} (write : List Field → List ℕ → List A) (from : Field → ℕ) (graphs : ℕ → List ℕ → List A) : Type 0 where
  pub none : (s : List ℕ) → graphs 0 s ≡ []
  pub more : (n : ℕ) (s : List ℕ) → graphs (suc n) s ≡ write (layout_of s) s ++ graphs n (drop (stretch from s) s)

pub unpacks_graphs : OneByOne numbers in_bytes graphs_numbers
unfolding graphs_numbers
unpacks_graphs = record { none = λ s. refl; more = λ n s. refl }

pub packs_graphs : OneByOne bytes in_numbers graphs_bytes
unfolding graphs_bytes
packs_graphs = record { none = λ l. refl; more = λ n l. refl }

-- A result that there is room for: n times the same part, of which k are made, and `last` behind them. The next one is read from
-- place `at` of s and goes to place `out`.
pub record Parts
    {A : Type 0} (write : List Field → List ℕ → List A) (part : List Field) (n : ℕ) (s : List ℕ) (last before now result : List A) (k at out : ℕ) : Type 0 where
  pub room : length result ≤ length before
  pub filling : Filling before now result (write (times (n - k) part) (drop at s) ++ last) out

module _
    {A : Type 0} {write : List Field → List ℕ → List A} {from to : Field → ℕ} (form : Makes write from to) {part : List Field} {n : ℕ} {s : List ℕ}
    {last before now result : List A} {k at out : ℕ} (p : Parts write part n s last before now result k at out) (h : k < n) where
  parts_next : write (times (n - k) part) (drop at s) ≡ write part (drop at s) ++ write (times (n - (k + 1)) part) (drop (at + total from part) s)
  unfolding times
  parts_next =
      let m : n - k ≡ suc (n - (k + 1)) = omega arith in
      rw (m, form.append part (times (n - (k + 1)) part) (drop at s), drop-drop)

  -- One more of them is made.
  pub parts_turn :
      {ys : List A} {w v i o at' out' : ℕ} → total from part ≡ w → total to part ≡ v → i ≡ at → o ≡ out → at' ≡ at + w → out' ≡ out + v →
      ys ≡ write part (drop i s) ++ drop v (mid_of o (length now - o) now) →
      Parts write part n s last before (put_mid o (length now - o) now ys) result (k + 1) at' out'
  parts_turn {ys} {w} {v} {i} {o} ew ev ei eo d q e =
      let c : length (write part (drop at s)) ≡ v = form.count part (drop at s) ∙ ev in
      record {
        room = p.room;
        filling =
            rw (eo, d, q, ← ew, ← c)
            (filling_part (write part (drop at s)) (rw (parts_next, append_assoc) at p.filling) (rw (ei, eo, ← c) at e));
      }

-- The actors' parts take what each takes.
pub actors_total : {size : Field → ℕ} {f a c : ℕ} → Sizes size f a c → (n : ℕ) → total size (times n actor_part) ≡ a * n
actors_total {size} {f} {a} {c} z n = rw (total_times size n actor_part, z.actor_is) (omega arith)

-- What there is room for, where there is room for the graph at the start of s.
module _ {size : Field → ℕ} {f a c : ℕ} (z : Sizes size f a c) (s : List ℕ) {room : ℕ} (h : stretch size s ≤ room) where
  graph_room : f + actor_count s * a + channel_count s * c ≤ room
  unfolding stretch
  graph_room = rw (layout_is z (actor_count s) (channel_count s)) at h

  -- Its fixed part.
  pub fixed_room : f ≤ room
  fixed_room = omega (arith, graph_room)

  -- Behind k of its actors one more.
  pub actor_room : {n k at : ℕ} → n ≡ actor_count s → k < n → at ≡ total size (layout k 0) → at + a ≤ room
  actor_room {n} {k} {at} e l d =
      let less : k < actor_count s = omega arith in
      omega (arith, graph_room, layout_is z k 0, mul-le-mul_right a less)

  -- Behind its actors and k of its channels one more.
  pub channel_room : {n m k at : ℕ} → n ≡ actor_count s → m ≡ channel_count s → k < m → at ≡ total size (layout n k) → at + c ≤ room
  channel_room {n} {m} {k} {at} e q l d =
      let less : k < channel_count s = omega arith in
      let here : at ≡ f + actor_count s * a + k * c = d ∙ layout_is z n k ∙ rw e in
      omega (arith, graph_room, mul-le-mul_right c less)

module _
    {A : Type 0} {write : List Field → List ℕ → List A} {from to : Field → ℕ} (form : Makes write from to) {f a c f' a' c' : ℕ}
    (z : Sizes from f a c) (z' : Sizes to f' a' c') where
  actors_take : (n : ℕ) → total from (times n actor_part) ≡ n * a
  actors_take n = rw (total_times from n actor_part, z.actor_is)

  graph_whole :
      (n m : ℕ) (s : List ℕ) →
      write (layout n m) s
      ≡ write (fixed_part 0) s ++ (write (times n actor_part) (drop f s) ++ write (times m (channel_part n)) (drop (f + n * a) s))
  unfolding layout
  graph_whole n m s =
      rw (
        form.append (fixed_part n) (times n actor_part ++ times m (channel_part n)) s,
        form.fixed_any n s,
        z.fixed_is n,
        form.append (times n actor_part) (times m (channel_part n)) (drop f s),
        actors_take n,
        drop-drop,
      )

  module _ (n m : ℕ) (s : List ℕ) {before now : List A} where
    -- The fixed part of a graph is made, its actors are to come.
    pub graph_actors :
        {at out : ℕ} → at ≡ f → out ≡ f' → total to (layout n m) ≤ length before → now ≡ write (fixed_part 0) s ++ drop f' before →
        Parts write actor_part n s (write (times m (channel_part n)) (drop (f + n * a) s)) before now (write (layout n m) s) 0 at out
    graph_actors d q h e = record {
      room = rw (form.count (layout n m) s) h;
      filling = rw (d, q, sub-zero) (record { done = write (fixed_part 0) s; wrote = form.count (fixed_part 0) s ∙ z'.fixed_is 0; whole = sym (graph_whole n m s); is = e });
    }

    -- Its actors are made, its channels are to come.
    pub graph_channels :
        {k at out at' out' : ℕ} → n ≤ k → at' ≡ f + n * a → out' ≡ out →
        Parts write actor_part n s (write (times m (channel_part n)) (drop (f + n * a) s)) before now (write (layout n m) s) k at out →
        Parts write (channel_part n) m s [] before now (write (layout n m) s) 0 at' out'
    unfolding times
    graph_channels {k} {at} h d q p =
        let e : n - k ≡ 0 = omega arith in
        record { room = p.room; filling = rw (d, q, sub-zero, append-nil) (rw (e, form.empty (drop at s)) at p.filling) }

    -- Its channels are made.
    pub graph_end :
        {k at out o : ℕ} → m ≤ k → Parts write (channel_part n) m s [] before now (write (layout n m) s) k at out →
        o ≡ total to (layout n m) → now ≡ write (layout n m) s ++ drop o before
    unfolding times
    graph_end {k} {at} {out} h p q =
        let e : m - k ≡ 0 = omega arith in
        rw (q, ← form.count (layout n m) s) (filling_end (rw (e, form.empty (drop at s)) at p.filling))

module _ (s list : List ℕ) where
  -- The numbers of the fixed part, one after the other.
  pub fixed_stored :
      {x y : ℕ} → 6 ≤ length list → x ≡ big_endian 4 (drop 4 s) → y ≡ big_endian 4 (drop 8 s) →
      sets list 0 (get_or s 0 0 ∷ get_or s 1 0 ∷ get_or s 2 0 ∷ get_or s 3 0 ∷ x ∷ y ∷ []) ≡ numbers (fixed_part 0) s ++ drop 6 list
  unfolding numbers fixed_part
  fixed_stored {x} {y} h p q =
      sets-eq (get_or s 0 0 ∷ get_or s 1 0 ∷ get_or s 2 0 ∷ get_or s 3 0 ∷ x ∷ y ∷ []) list 0 h
      ∙ simp (p, q, drop-drop, big_endian_one, get_or-drop)

  -- The number of an actor.
  pub time_stored : {x : ℕ} → 1 ≤ length list → x ≡ big_endian 4 (drop 0 s) → sets list 0 (x ∷ []) ≡ numbers actor_part s ++ drop 1 list
  unfolding numbers actor_part
  time_stored {x} h p = sets-eq (x ∷ []) list 0 h ∙ rw p

  -- The numbers of a channel, one after the other.
  pub channel_stored :
      {x y z : ℕ} → 5 ≤ length list → x ≡ big_endian 2 (drop 2 s) → y ≡ big_endian 2 (drop 4 s) → z ≡ big_endian 2 (drop 6 s) →
      sets list 0 (get_or s 0 0 ∷ get_or s 1 0 ∷ x ∷ y ∷ z ∷ []) ≡ numbers (channel_part 0) s ++ drop 5 list
  unfolding numbers channel_part
  channel_stored {x} {y} {z} h p q r =
      sets-eq (get_or s 0 0 ∷ get_or s 1 0 ∷ x ∷ y ∷ z ∷ []) list 0 h ∙ simp (p, q, r, drop-drop, big_endian_one, get_or-drop)

-- A field of two bytes.
pub two_bytes : (n : ℕ) → n / 256 % 256 ∷ n % 256 ∷ [] ≡ to_bytes 2 n
unfolding to_bytes
two_bytes n = rw div-one

-- A field of four bytes.
pub four_bytes : (n : ℕ) → n / 16777216 % 256 ∷ n / 65536 % 256 ∷ n / 256 % 256 ∷ n % 256 ∷ [] ≡ to_bytes 4 n
unfolding to_bytes
four_bytes n = rw div-one

-- The bytes of a field are written in one piece, at place i.
pub field_stored :
    (w n i k : ℕ) (out : List ℕ) {ys : List ℕ} → i + w ≤ length out → k ≡ w → ys ≡ to_bytes w n → put_mid i k out ys ≡ sets out i (to_bytes w n)
field_stored w n i k out {ys} h e p =
    let t : w ≡ length (to_bytes w n) = sym (to_bytes_length w n) in
    let s : i + length (to_bytes w n) ≤ length out = omega (arith, t) in
    let piece = put_mid-paste i k out ys (to_bytes w n) w p (sym e) t ∙ paste_all out i (to_bytes w n) w t in
    piece ∙ (rw (append_assoc, to_bytes_length) at (sym (sets-eq (to_bytes w n) out i s)))

module _ (l out : List ℕ) where
  -- The bytes of the fixed part, one after the other.
  pub fixed_packed :
      {x y : List ℕ} → 12 ≤ length out →
      x ≡ sets (sets out 0 (get_or l 0 0 % 256 ∷ get_or l 1 0 % 256 ∷ get_or l 2 0 % 256 ∷ get_or l 3 0 % 256 ∷ [])) 4 (to_bytes 4 (get_or l 4 0)) →
      y ≡ sets x 8 (to_bytes 4 (get_or l 5 0)) → y ≡ bytes (fixed_part 0) l ++ drop 12 out
  unfolding bytes fixed_part to_bytes
  fixed_packed {x} {y} h p q =
      q
      ∙ rw p
      (sets-eq
      ((get_or l 0 0 % 256 ∷ get_or l 1 0 % 256 ∷ get_or l 2 0 % 256 ∷ get_or l 3 0 % 256 ∷ []) ++ (to_bytes 4 (get_or l 4 0) ++ to_bytes 4 (get_or l 5 0)))
      out 0 h
      ∙ simp (drop-drop, div-one, get_or-drop))

  -- The bytes of an actor.
  pub time_packed : {x : List ℕ} → 4 ≤ length out → x ≡ sets out 0 (to_bytes 4 (get_or l 0 0)) → x ≡ bytes actor_part l ++ drop 4 out
  unfolding bytes actor_part to_bytes
  time_packed h p = p ∙ sets-eq (to_bytes 4 (get_or l 0 0)) out 0 h

  -- The bytes of a channel, one after the other.
  pub channel_packed :
      {x y z : List ℕ} → 8 ≤ length out →
      x ≡ sets (sets out 0 (get_or l 0 0 % 256 ∷ get_or l 1 0 % 256 ∷ [])) 2 (to_bytes 2 (get_or l 2 0)) →
      y ≡ sets x 4 (to_bytes 2 (get_or l 3 0)) → z ≡ sets y 6 (to_bytes 2 (get_or l 4 0)) → z ≡ bytes (channel_part 0) l ++ drop 8 out
  unfolding bytes channel_part to_bytes
  channel_packed h p q r =
      r
      ∙ rw (q, p)
      (sets-eq
      ((get_or l 0 0 % 256 ∷ get_or l 1 0 % 256 ∷ []) ++ (to_bytes 2 (get_or l 2 0) ++ (to_bytes 2 (get_or l 3 0) ++ to_bytes 2 (get_or l 4 0))))
      out 0 h
      ∙ simp (drop-drop, div-one, get_or-drop))
