-- Reading the chips of a net line one after the other.
use Rattle.std.proofs.Common.{◌≡◌, ℕ, ◌≤◌, Bool, true, false, not, eqb, List, [], ◌∷◌, ◌++◌, length, is_some, Some, None, Option, sym, refl, ap, ◌∙◌, subst, append_assoc, arith}
use Rattle.std.proofs.lemmas.List.{flat_map_more}
use Rattle.std.specs.List.{flat_map}
use Rattle.std.specs.Bool.{then_some}
use Rattle.std.proofs.lemmas.Bool.{eqb-true, eqb-false}
use Rattle.netlist.specs.Lines.{line_feed, Chips, ends_of, with_chip}
use Rattle.netlist.specs.Lines as lines
use Rattle.netlist.specs.Pieces.{byte, field, chips, digit_first}
use Rattle.netlist.specs.Place.{rest, Finds, FindsAs, Takes}
use Rattle.netlist.specs.declared.reader.Reader.{Reader}
use Rattle.netlist.proofs.Sequences.{only_field}
use Rattle.netlist.proofs.Sets.{chips_middle, ends_some, with_some, with_none}

-- a reader has come over some chips; every list of chips that stands at the start begins with these
pub record Listed (start : Reader) (ends : ℕ) (here : Reader) : Type 0 where
  pub seen : List ℕ
  pub read : rest start ≡ flat_map lines.field seen ++ rest here
  pub good : Chips seen
  pub set : ends ≡ ends_of seen
  pub line : here.line ≡ start.line
  pub only : (cs behind : List ℕ) → Chips cs → rest start ≡ chips.written cs ++ behind → (more : List ℕ) × (cs ≡ seen ++ more) × (rest here ≡ chips.written more ++ behind)

-- behind a number in a list of chips stands no digit
pub no_digit : (more behind : List ℕ) → digit_first (chips.written more ++ behind) ≡ false
no_digit [] behind = refl
no_digit (c ∷ more) behind = refl

pub field_first : (c : ℕ) (more behind : List ℕ) → chips.written (c ∷ more) ++ behind ≡ lines.field c ++ (chips.written more ++ behind)
field_first c more behind =
    ap (λ bs. bs ++ behind) (append_assoc (lines.field c) (flat_map lines.field more) line_feed) ∙ append_assoc (lines.field c) (flat_map lines.field more ++ line_feed) behind

module _ {start here : Reader} {ends : ℕ} (listed : Listed start ends here) where
  -- the reader may look for the line feed and stay
  pub listed_stays : {next : Reader} → Takes (byte 10) here None next → Listed start ends next
  listed_stays t =
      let s = t.stays refl in
      record {
        seen = listed.seen;
        read = listed.read ∙ ap (λ bs. flat_map lines.field listed.seen ++ bs) (sym s);
        good = listed.good;
        set = listed.set;
        line = t.finds.line ∙ listed.line;
        only = λ cs behind g e. let o = listed.only cs behind g e in (o.0, o.1, s ∙ o.2);
      }

  -- where no line feed stands, a list that stands at the start goes on with a chip
  goes_on : ((behind : List ℕ) → rest here ≡ 10 ∷ behind → ⊥) → (cs behind : List ℕ) → Chips cs → rest start ≡ chips.written cs ++ behind →
      (c : ℕ) × (more : List ℕ) × (cs ≡ listed.seen ++ c ∷ more) × field.Fits c (chips.written more ++ behind) × (rest here ≡ lines.field c ++ (chips.written more ++ behind))
  goes_on none cs behind g e = by (listed.only cs behind g e).0 (listed.only cs behind g e).1 (listed.only cs behind g e).2
    where
      by : (more : List ℕ) → cs ≡ listed.seen ++ more → rest here ≡ chips.written more ++ behind →
          (c : ℕ) × (more : List ℕ) × (cs ≡ listed.seen ++ c ∷ more) × field.Fits c (chips.written more ++ behind) × (rest here ≡ lines.field c ++ (chips.written more ++ behind))
      by [] s r = absurd (none behind r)
      by (c ∷ more) s r = (c, more, s, (omega (arith, (chips_middle listed.seen c more (subst Chips s g)).1), no_digit more behind), r ∙ field_first c more behind)

  module _ {next : Reader} (t : Takes (byte 10) here (Some tt) next) where
    -- a line feed without a chip before it
    chips_empty : ends ≡ 0 → Finds chips start None next
    chips_empty z = record { found = λ cs behind fits e. by listed.seen (sym listed.set ∙ z) cs behind fits (listed.only cs behind fits.1 e); line = t.finds.line ∙ listed.line }
      where
        at_feed : (more behind : List ℕ) → 1 ≤ length more → rest here ≡ chips.written more ++ behind → ⊥
        at_feed [] behind l r = omega arith
        at_feed (c ∷ more) behind l r =
            let d = t.finds.found.1 in
            cc

        by : (seen : List ℕ) → ends_of seen ≡ 0 → (cs behind : List ℕ) → chips.Fits cs behind → (more : List ℕ) × (cs ≡ seen ++ more) × (rest here ≡ chips.written more ++ behind) → ⊥
        by [] n cs behind fits o = at_feed o.0 behind (subst (λ l. 1 ≤ length l) o.1 fits.0) o.2
        by (c ∷ seen) n cs behind fits o = ends_some c seen n

    chips_all : (ends ≡ 0 → ⊥) → Finds chips start (Some listed.seen) next
    chips_all nz =
        record {
          found = (
            (some listed.seen listed.set, listed.good),
            listed.read ∙ ap (λ bs. flat_map lines.field listed.seen ++ bs) t.finds.found.1 ∙ sym (append_assoc (flat_map lines.field listed.seen) line_feed (rest next)),
          );
          line = t.finds.line ∙ listed.line;
        }
      where
        some : (seen : List ℕ) → ends ≡ ends_of seen → 1 ≤ length seen
        some [] e = absurd (nz e)
        some (c ∷ seen) e = omega arith

    pub chips_end : {r : Option ℕ} → r ≡ then_some (not (eqb ends 0)) ends → FindsAs ends_of chips start r next
    chips_end {r} e = by (eqb ends 0) refl
      where
        by : (t : Bool) → eqb ends 0 ≡ t → FindsAs ends_of chips start r next
        by true z = (None, chips_empty (eqb-true ends 0 z), e ∙ ap (λ b. then_some (not b) ends) z)
        by false z = (Some listed.seen, chips_all (eqb-false ends 0 z), e ∙ ap (λ b. then_some (not b) ends) z ∙ ap Some listed.set)

-- a reader that found no line feed reads a chip
module _ {start before here : Reader} {ends : ℕ} (was : Listed start ends before) (feed : Takes (byte 10) before None here) where
  listed : Listed start ends here
  listed = listed_stays was feed

  no_feed : (behind : List ℕ) → rest here ≡ 10 ∷ behind → ⊥
  no_feed behind e = feed.finds.found tt behind tt (sym (feed.stays refl) ∙ e)

  pub no_chip : {next : Reader} → Finds field here None next → Finds chips start None next
  no_chip f = record {
    found = λ cs behind fits e. let o = goes_on listed no_feed cs behind fits.1 e in f.found o.0 (chips.written o.1 ++ behind) o.3 o.4;
    line = f.line ∙ listed.line;
  }

  module _ {next : Reader} {c : ℕ} (f : Finds field here (Some c) next) where
    -- and that chip is the one that is read
    same_chip : (cs behind : List ℕ) → Chips cs → rest start ≡ chips.written cs ++ behind → (more : List ℕ) × (cs ≡ listed.seen ++ c ∷ more) × (rest next ≡ chips.written more ++ behind)
    same_chip cs behind g e =
        let o = goes_on listed no_feed cs behind g e in
        let s = only_field.same c o.0 (rest next) (chips.written o.1 ++ behind) f.found.0 o.3 (sym f.found.1 ∙ o.4) in
        (o.1, o.2 ∙ ap (λ x. listed.seen ++ x ∷ o.1) (sym s.0), s.1)

    pub chip_refused : None ≡ with_chip ends c → Finds chips start None next
    chip_refused e = record {
      found = λ cs behind fits p.
          let o = same_chip cs behind fits.1 p in
          with_none listed.seen c listed.good o.0 (e ∙ ap (λ n. with_chip n c) listed.set) (subst Chips o.1 fits.1);
      line = f.line ∙ listed.line;
    }

    pub chip_more : {new : ℕ} → Some new ≡ with_chip ends c → Listed start new next
    chip_more {new} e =
        let w = with_some listed.seen c listed.good new (e ∙ ap (λ n. with_chip n c) listed.set) in
        record {
          seen = listed.seen ++ c ∷ [];
          read = listed.read ∙ ap (λ bs. flat_map lines.field listed.seen ++ bs) f.found.1 ∙ sym (append_assoc (flat_map lines.field listed.seen) (lines.field c) (rest next)) ∙ ap (λ bs. bs ++ rest next) (flat_map_more lines.field [] listed.seen c);
          good = w.0;
          set = w.1;
          line = f.line ∙ listed.line;
          only = λ cs behind g p. let o = same_chip cs behind g p in (o.0, o.1 ∙ sym (append_assoc listed.seen (c ∷ []) o.0), o.2);
        }

-- the answer of a look for a byte, by its test
pub looked : {b : ℕ} {here next : Reader} (r : Option (Unit {0})) → Takes (byte b) here r next → is_some r ≡ true → Takes (byte b) here (Some tt) next
looked (Some x) t e = t
looked None t e = cc

pub looked_none : {b : ℕ} {here next : Reader} (r : Option (Unit {0})) → Takes (byte b) here r next → is_some r ≡ false → Takes (byte b) here None next
looked_none None t e = t
looked_none (Some x) t e = cc
