-- Request c: every result of check that satisfies its contract accepts exactly the bridges of demand 3, else names the lowest faulty place, and what it
-- accepts permits only what ours does. Assumes nothing.
use Prim.Native.Nat.{ℕ, ◌/◌, ◌%◌, ◌^◌}
use mathlib.Core.Path.{◌≡◌, sym, ap, ◌∙◌}
use mathlib.Core.Logic.Iff
use mathlib.Core.Logic.{◌↔◌, ◌⊎◌, inl, inr, ⊎_elim}
use mathlib.Core.List.{List}
use Rattle.format.specs.Verdicts.{Verdict, Fine, Refused, number_of, row_of}
use Rattle.rules.specs.declared.Conf.{Conf}
use Rattle.rules.specs.declared.Pair.{Pair}
use Rattle.rules.specs.Configurations.{GoodPair, place}
use Rattle.rules.specs.Kept.{KeptAt}
use Rattle.rules.specs.Bridges.{deciding}
use Rattle.rules.specs.Permissions.{Reached, HasWay, PermitsBad, Faulty, Accepted}
use Rattle.rules.proofs.Bridges.{meets_leads}
use Rattle.rules.proofs.Permissions.{accepted_bridge, bridge_accepted, reached_meets, accepted_faultless, faulty_none, faulty_stuck, accepted_start}
use Rattle.calls.specs.Call.{Call, pair_of}
use Rattle.calls.specs.declared.Built.{Built}
use Rattle.calls.specs.Build.{BuildSays}
use Rattle.calls.specs.Check.{CheckSays}
use Rattle.calls.specs.Packed.{PackedCheck}
use Rattle.calls.proofs.Largest.{answer_largest}
use Rattle.calls.proofs.Checked.{Whole, check_good, check_judged, faultless_fine, nineteen_first, twenty_else}
use Rattle.calls.proofs.Codes.{NumberedCheck, check_numbered}
use Rattle.calls.proofs.Unpacked.{Unpacked, check_fields}
use Rattle.demands.specs.Demands.{asks_bit}
use Rattle.demands.specs.Checked.{Its, IsBridge, LowestAt, of_verdict, of_number, RequestC}
use Rattle.demands.proofs.Results.{no_converter}
use Rattle.demands.proofs.Demand3.{demand3}
use Rattle.std.specs.Prelude.{None}
use Rattle.format.specs.declared.Fault.TheVariants.{StartDropped, BadMovePermitted, NoWayToFinish}

module _ (k : Call) (list : List ℕ) (v : Verdict) (says : CheckSays k list v) where
  abbrev X : Pair
  X = pair_of k

  numbers : NumberedCheck k list v
  numbers = check_numbered k list v says

  -- ---- accepted

  module _ (e : v ≡ Fine) where
    past : Whole k list
    past = (numbers.zero_none (ap number_of e)).0

    good : GoodPair X
    good = check_good k list past

    fine_accepted : Accepted X (Its k list)
    fine_accepted = (numbers.zero_none (ap number_of e)).1.accepted

    fine_bridge : IsBridge k list
    fine_bridge = accepted_bridge X (Its k list) good fine_accepted

    -- what an accepted list permits where it comes, ours permits: it is an other bridge of demand 3
    pub checked_ours : (before after : List ℕ) (b : Built) → BuildSays k before after b → b.verdict ≡ Fine
        → (c : Conf) (x y : ℕ) → Reached X (Its k list) c → Its k list c x y → asks_bit k after c x y
    checked_ours before after b built done c x y r p =
        let met = reached_meets X (Its k list) r in
        (demand3 k before after b built).others done (deciding X (Its k list)) fine_bridge met.0 c x y met.1 (c, meets_leads X _ met.1, p)

    -- where a list is accepted build does not say "no converter": the start is in the largest set
    pub checked_converter : (before after : List ℕ) (b : Built) → BuildSays k before after b → ¬ (b.verdict ≡ Refused StartDropped None 0)
    checked_converter before after b built q =
        let none = (no_converter k before after b built q).0 in
        none.start_out (accepted_start X (Its k list) good fine_accepted (KeptAt X none.bytes) (answer_largest X good none.answer).largest)

  -- where no configuration is faulty the list is accepted
  pub no_fault_accepted : Whole k list → ((c : Conf) → ¬ Faulty X (Its k list) c) → v ≡ Fine
  no_fault_accepted whole none = faultless_fine X list none (check_judged k list v says whole)

  -- ---- a faulty place

  bad_at : (p : ℕ) → v ≡ Refused BadMovePermitted None p → Whole k list × ((c : Conf) × LowestAt k list p c × PermitsBad X (Its k list) c)
  bad_at p e =
      let m = numbers.nineteen_bad (ap number_of e) in
      let is : place X m.1.at ≡ p = ap row_of (sym m.1.verdict ∙ e) in
      (m.0, (m.1.at, record { lowest = m.1.lowest; is_place = is }, m.1.bad))

  stuck_at : (p : ℕ) → v ≡ Refused NoWayToFinish None p
      → Whole k list × ((c : Conf) × LowestAt k list p c × (¬ PermitsBad X (Its k list) c) × (¬ HasWay X (Its k list) c))
  stuck_at p e =
      let m = numbers.twenty_stuck (ap number_of e) in
      let is : place X m.1.at ≡ p = ap row_of (sym m.1.verdict ∙ e) in
      let stuck = faulty_stuck X (Its k list) m.1.at m.1.lowest.faulty m.1.not_bad in
      (m.0, (m.1.at, record { lowest = m.1.lowest; is_place = is }, m.1.not_bad, stuck))

  named : (p : ℕ) → (v ≡ Refused BadMovePermitted None p) ⊎ (v ≡ Refused NoWayToFinish None p) → ¬ IsBridge k list
  named p (inl e) = let m = bad_at p e in faulty_none X (Its k list) (check_good k list m.0) m.1.0 m.1.1.lowest.faulty
  named p (inr e) = let m = stuck_at p e in faulty_none X (Its k list) (check_good k list m.0) m.1.0 m.1.1.lowest.faulty

  -- what request c asks, off the verdict
  pub request_c : RequestC k list (of_verdict v)
  request_c = record {
    faultless = λ whole. (λ e. accepted_faultless X (Its k list) (fine_accepted e), no_fault_accepted whole);
    accepts = λ whole. (
      fine_bridge,
      λ b. no_fault_accepted whole (accepted_faultless X (Its k list) (bridge_accepted X (Its k list) (check_good k list whole) b)),
    );
    bad_move = λ whole p. (
      λ e. (bad_at p e).1,
      λ m.
          nineteen_first X list (check_good k list whole) m.0 m.1.lowest m.2 (check_judged k list v says whole) ∙ ap (Refused BadMovePermitted None) m.1.is_place,
    );
    no_way = λ whole p. (
      λ e. (stuck_at p e).1,
      λ m. twenty_else X list (check_good k list whole) m.0 m.1.lowest m.2 (check_judged k list v says whole) ∙ ap (Refused NoWayToFinish None) m.1.is_place,
    );
    no_bridge = named;
    ours = checked_ours;
    converter = checked_converter;
  }

-- ---- as the generator reads it

module _ (k : Call) (list : List ℕ) (z : ℕ) (p : PackedCheck k list z) where
  abbrev v : Verdict
  v = p.verdict

  codes : NumberedCheck k list v
  codes = check_numbered k list v p.says

  fields : Unpacked z v 0 0
  fields = check_fields k list z p

  accepts_same : (z % 2 ^ 8 ≡ 0) ↔ (v ≡ Fine)
  accepts_same = (λ e. codes.zero_done.0 (sym fields.number_is ∙ e), λ e. fields.number_is ∙ ap number_of e)

  bad_same : (q : ℕ) → ((z % 2 ^ 8 ≡ 19) × (z / 2 ^ 16 % 2 ^ 16 ≡ q)) ↔ (v ≡ Refused BadMovePermitted None q)
  bad_same q = (
    λ e.
        let said = (codes.nineteen_bad (sym fields.number_is ∙ e.0)).1.verdict in
        said ∙ ap (Refused BadMovePermitted None) (sym (ap row_of said) ∙ sym fields.row_is ∙ e.1),
    λ e. (fields.number_is ∙ ap number_of e, fields.row_is ∙ ap row_of e),
  )

  stuck_same : (q : ℕ) → ((z % 2 ^ 8 ≡ 20) × (z / 2 ^ 16 % 2 ^ 16 ≡ q)) ↔ (v ≡ Refused NoWayToFinish None q)
  stuck_same q = (
    λ e.
        let said = (codes.twenty_stuck (sym fields.number_is ∙ e.0)).1.verdict in
        said ∙ ap (Refused NoWayToFinish None) (sym (ap row_of said) ∙ sym fields.row_is ∙ e.1),
    λ e. (fields.number_is ∙ ap number_of e, fields.row_is ∙ ap row_of e),
  )

  -- and off the packed number
  pub request_c_packed : RequestC k list (of_number z)
  request_c_packed =
      let d = request_c k list v p.says in
      record {
        faultless = λ whole. Iff.trans accepts_same (d.faultless whole);
        accepts = λ whole. Iff.trans accepts_same (d.accepts whole);
        bad_move = λ whole q. Iff.trans (bad_same q) (d.bad_move whole q);
        no_way = λ whole q. Iff.trans (stuck_same q) (d.no_way whole q);
        no_bridge = λ q. ⊎_elim (λ e. d.no_bridge q (inl ((bad_same q).0 e))) (λ e. d.no_bridge q (inr ((stuck_same q).0 e)));
        ours = λ e. d.ours (accepts_same.0 e);
        converter = λ e. d.converter (accepts_same.0 e);
      }
