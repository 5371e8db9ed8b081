-- Reading a netlist line by line into a blank board.
use Rattle.std.proofs.Common.{◌≡◌, ℕ, ◌+◌, ◌≤◌, Bool, true, false, not, eqb, List, [], ◌∷◌, ◌++◌, map, length, None, Ok, Err, Result, sym, refl, ap, ◌∙◌, subst, append_assoc, add-zero, arith}
use Rattle.std.proofs.lemmas.List.{flat_map_more, length_push, nil_from_length}
use Rattle.std.proofs.lemmas.Bool.{false≢true, eqb-true, eqb-false}
use Rattle.std.specs.List.{flat_map}
use Rattle.board.specs.Held.{Held, blank, judged, changed, after, after_all, unless_refused}
use Rattle.netlist.specs.Lines.{Line, BoardLine, NetLine, LockLine, render, MayStand, edit_of}
use Rattle.netlist.specs.Place.{rest, Acts}
use Rattle.netlist.specs.Reads.{Placed, Accepted, Stops, Reading, Reads}
use Rattle.netlist.specs.declared.fault.Fault.{Fault}
use Rattle.netlist.specs.declared.fault.Fault.TheVariants.{TooLong, NoForm, Declined}
use Rattle.netlist.specs.declared.reader.Reader.{Reader}

placed_push : (place : ℕ) (ls : List Line) (l : Line) → Placed place ls → MayStand (place + length ls) l → Placed place (ls ++ l ∷ [])
placed_push place [] l p m = (subst (λ n. MayStand n l) (add-zero place) m, tt)
placed_push place (x ∷ ls) l p m =
    let n : place + length (x ∷ ls) ≡ place + 1 + length ls = omega arith in
    (p.0, placed_push (place + 1) ls l p.1 (subst (λ k. MayStand k l) n m))

accepted_push : (held : Held) (ls : List Line) (l : Line) → Accepted held ls → judged (after_all held (map edit_of ls)) (edit_of l) ≡ None → Accepted held (ls ++ l ∷ [])
accepted_push held [] l a j = (j, tt)
accepted_push held (x ∷ ls) l a j = (a.0, accepted_push (after held (edit_of x)) ls l a.1 j)

after_push : (held : Held) (ls : List Line) (l : Line) → after_all held (map edit_of (ls ++ l ∷ [])) ≡ after (after_all held (map edit_of ls)) (edit_of l)
after_push held [] l = refl
after_push held (x ∷ ls) l = after_push (after held (edit_of x)) ls l

-- a first line makes the board anew, so what was held before does not count
made_anew : (held other : Held) (line : Line) → MayStand 1 line → (judged held (edit_of line) ≡ judged other (edit_of line)) × (changed held (edit_of line) ≡ changed other (edit_of line))
made_anew held other (BoardLine p k m) s = (refl, refl)
made_anew held other (NetLine n cs) s = absurd (false≢true s.1)
made_anew held other (LockLine n l) s = absurd (false≢true s.1)

taken : (held : Held) (line : Line) → judged held (edit_of line) ≡ None → after held (edit_of line) ≡ changed held (edit_of line)
taken held line e = ap (λ o. unless_refused o (changed held (edit_of line)) held) e

module _ (held other : Held) where
  first_same : (l : Line) → MayStand 1 l → judged held (edit_of l) ≡ None → (judged other (edit_of l) ≡ None) × (after held (edit_of l) ≡ after other (edit_of l))
  first_same l s j =
      let m = made_anew held other l s in
      let k = sym m.0 ∙ j in
      (k, taken held l j ∙ m.1 ∙ sym (taken other l k))

  anew_accepted : (ls : List Line) → Placed 1 ls → Accepted held ls → Accepted other ls
  anew_accepted [] p a = tt
  anew_accepted (l ∷ ls) p a = let f = first_same l p.0 a.0 in (f.0, subst (λ h. Accepted h ls) f.1 a.1)

  anew_after : (ls : List Line) → 1 ≤ length ls → Placed 1 ls → Accepted held ls → after_all held (map edit_of ls) ≡ after_all other (map edit_of ls)
  anew_after [] s p a = absurd (omega arith)
  anew_after (l ∷ ls) s p a = ap (λ h. after_all h (map edit_of ls)) (first_same l p.0 a.0).1

  anew_judged : (ls : List Line) (l : Line) → Placed 1 ls → Accepted held ls → MayStand (length ls + 1) l → judged (after_all held (map edit_of ls)) (edit_of l) ≡ judged (after_all other (map edit_of ls)) (edit_of l)
  anew_judged [] l p a s = (made_anew held other l s).0
  anew_judged (x ∷ ls) l p a s = ap (λ h. judged h (edit_of l)) (anew_after (x ∷ ls) (omega arith) p a)

-- a reader has come over lines that a blank board has taken
pub record Sofar (text : List ℕ) (here : Reader) (held : Held) : Type 0 where
  pub lines : List Line
  pub written : text ≡ flat_map render lines ++ rest here
  pub placed : Placed 1 lines
  pub accepted : Accepted blank lines
  pub holds : held ≡ after_all blank (map edit_of lines)
  pub line : here.line ≡ length lines + 1

-- and one line at least
pub record Begun (text : List ℕ) (here : Reader) (held : Held) : Type 0 where
  pub sofar : Sofar text here held
  pub some : 1 ≤ length sofar.lines

-- a reader between two lines: where something is left it may go on, and else it is at the end behind a line
pub record Going (text : List ℕ) (here : Reader) (held : Held) (is_left : Bool) : Type 0 where
  pub sofar : Sofar text here held
  pub goes : is_left ≡ true → rest here ≡ [] → length sofar.lines ≡ 0
  pub ends : is_left ≡ false → (rest here ≡ []) × (1 ≤ length sofar.lines)

-- behind a line it may go on where the rest is not empty
pub going_on : {text : List ℕ} {here : Reader} {held : Held} (empty : Bool) → empty ≡ eqb (length (rest here)) 0 → Begun text here held → Going text here held (not empty)
going_on true e begun = record { sofar = begun.sofar; goes = λ h. absurd (false≢true h); ends = λ _. (nil_from_length _ (eqb-true _ 0 (sym e)), begun.some) }
going_on false e begun = record { sofar = begun.sofar; goes = λ _ n. absurd (eqb-false _ 0 (sym e) (ap length n)); ends = λ h. absurd (false≢true (sym h)) }

abbrev pub none_read : {text : List ℕ} {here : Reader} {held : Held} → rest here ≡ text → here.line ≡ 1 → held ≡ blank → Sofar text here held
none_read r l h = record { lines = []; written = sym r; placed = tt; accepted = tt; holds = h; line = l }

at_line : {text : List ℕ} {here : Reader} {held : Held} (sofar : Sofar text here held) (l : Line) → MayStand here.line l → MayStand (length sofar.lines + 1) l
at_line sofar l m = subst (λ n. MayStand n l) sofar.line m

module _ {text : List ℕ} {here next : Reader} {held : Held} (sofar : Sofar text here held) where
  pub one_more : {held' : Held} → Acts here held (Ok tt) next held' → Begun text next held'
  one_more {held'} a =
      let l = a.0 in
      let g = a.1 in
      let ls = sofar.lines in
      let n : length ls + 1 ≡ 1 + length ls = omega arith in
      let more = length_push ls l in record {
        sofar = record {
          lines = ls ++ l ∷ [];
          written = sofar.written ∙ ap (λ bs. flat_map render ls ++ bs) g.finds.1 ∙ sym (append_assoc (flat_map render ls) (render l) (rest next)) ∙ ap (λ bs. bs ++ rest next) (flat_map_more render [] ls l);
          placed = placed_push 1 ls l sofar.placed (subst (λ k. MayStand k l) n (at_line sofar l g.finds.0));
          accepted = accepted_push blank ls l sofar.accepted (ap (λ h. judged h (edit_of l)) (sym sofar.holds) ∙ a.2);
          holds = a.3 ∙ ap (λ h. after h (edit_of l)) sofar.holds ∙ sym (after_push blank ls l);
          line = omega (arith, g.line, sofar.line, more);
        };
        some = omega (arith, more);
      }

module _ (start : Held) {text : List ℕ} (short : length text ≤ 16384) where
  reads : {r : Result (Unit {0}) Fault} {after : Held} → Reading start text r after → Reads start text r after
  reads reading = record { long = λ l. absurd (omega arith); short = λ _. reading }

  -- the text is at its end behind a line
  pub all_read : {here : Reader} {held : Held} → Begun text here held → rest here ≡ [] → Reads start text (Ok tt) held
  all_read {here} begun e =
      let sofar = begun.sofar in
      let ls = sofar.lines in
      reads (record {
        lines = ls;
        left = rest here;
        written = sofar.written;
        placed = sofar.placed;
        accepted = anew_accepted blank start ls sofar.placed sofar.accepted;
        stops = (e, omega (arith, begun.some));
        leaves = sofar.holds ∙ anew_after blank start ls begun.some sofar.placed sofar.accepted;
      })

  -- the next line is at fault
  pub fault_read : {here : Reader} (next : Reader) {held : Held} (held' : Held) (sofar : Sofar text here held) → (rest here ≡ [] → length sofar.lines ≡ 0) →
      (fault : Fault) {r : Result (Unit {0}) Fault} → r ≡ Err fault → Acts here held (Err fault) next held' → Reads start text r start
  fault_read {here} next {held} held' sofar more fault is a =
      let ls = sofar.lines in
      let reading : Reading start text (Err fault) start = record {
        lines = ls;
        left = rest here;
        written = sofar.written;
        placed = sofar.placed;
        accepted = anew_accepted blank start ls sofar.placed sofar.accepted;
        stops = by fault a;
        leaves = refl;
      } in
      subst (λ r. Reads start text r start) (sym is) (reads reading)
    where
      by : (f : Fault) → Acts here held (Err f) next held' → Stops (after_all start (map edit_of sofar.lines)) (length sofar.lines + 1) (rest here) (Err f)
      by TooLong b = b
      by (NoForm n) b =
          (b.0 ∙ sofar.line, (λ e. omega (arith, more e)), λ form behind m e. b.1.finds form behind (subst (λ k. MayStand k form) (sym sofar.line) m) e)
      by (Declined n cause) b =
          let l = b.1.0 in
          let m = at_line sofar l b.1.1.finds.0 in (
            b.0 ∙ sofar.line,
            l,
            rest next,
            m,
            b.1.1.finds.1,
            sym (anew_judged blank start sofar.lines l sofar.placed sofar.accepted m) ∙ ap (λ h. judged h (edit_of l)) (sym sofar.holds) ∙ b.1.2,
          )
