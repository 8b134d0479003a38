-- A device each of whose values was heard.
use Rattle.std.proofs.Common.{◌≡◌, ◌≢◌, ◌≤◌, ◌∙◌, ℕ, List, Option, refl, sym, subst, inl, inr, arith}
use Rattle.std.specs.Prelude.{All, IsFalse, IsTrue, Some}
use Rattle.std.proofs.lemmas.List.Elements.{All-contains}
use Rattle.cm_nmt.specs.declared.terms.Terms.{Terms}
use Rattle.cm_netlist.specs.Network.{Network, terms}
use Rattle.cm_boot.specs.Questions.{device_type, vendor_id, product_code, revision_number, serial_number}
use Rattle.cm_bus.specs.Identifying.{Identifies, Reads, value_in}
use Rattle.cm_bus.specs.declared.identifying.Identity.{Identity}
use Rattle.cm_boot.specs.declared.question.Question.{Question}
use Rattle.cm_boot.specs.declared.question.Question.TheVariants as ask
use Rattle.cm_boot.specs.declared.question.Answer.{Answer}
use Rattle.cm_boot.specs.declared.question.Answer.TheVariants as answer
use Rattle.cm_bus.specs.Receiving.{BusView, IsAskedOver, IsGiven, IsHeard, IsHeardAs}
use Rattle.cm_bus.proofs.Given.{within_given}
use Rattle.cm_can.specs.declared.format.Format.{Format}
use Rattle.cm_can.specs.declared.frame.CanFrame.{CanFrame}
use Rattle.canboot_scan.specs.Compared.{HasExpected, IsAsListed, IsFoundAsListed}
use Rattle.canboot_scan.specs.declared.found.Found.{Found}
use Rattle.canboot_scan.specs.Scanning.{AreHeardAsListed, IsHeardAsListed, IsHeardDevice, found_of}

module _ (format : Format) (text : Option (List ℕ)) (node : ℕ) where
  -- a value that was read was heard, where it isn't 0
  heard_as : (q : Question) (v begun from upto : ℕ) (x : Answer) → v ≡ value_in x → IsGiven format text node q x begun from upto → IsHeardAs format text node q v begun from upto
  heard_as q v begun from upto (answer.Value w) is given = record {
    on = given.on;
    heard = λ some. elim given.given [
      | inl silent ↦ absurd (cc)
      | inr heard ↦ subst (λ (n : ℕ). IsHeard format text node q (answer.Value n) begun from upto) (sym is) heard
    ];
  }
  heard_as q v begun from upto answer.Acked is given = record { on = given.on; heard = λ some. absurd (some is) }
  heard_as q v begun from upto (answer.Abort c) is given = record { on = given.on; heard = λ some. absurd (some is) }
  heard_as q v begun from upto answer.Silent is given = record { on = given.on; heard = λ some. absurd (some is) }
  heard_as q v begun from upto (answer.State s) is given = record { on = given.on; heard = λ some. absurd (some is) }

  -- a device type that was given was heard, also up to a later place
  answered : (v from upto later : ℕ) → upto ≤ later → IsGiven format text node (ask.Read 4096 0) (answer.Value v) from from upto
      → IsHeard format text node (ask.Read 4096 0) (answer.Value v) from from later
  answered v from upto later le given = elim given.given [
    | inl silent ↦ absurd (cc)
    | inr h ↦ record { place = h.place; frame = h.frame; behind = h.behind; within = omega (arith, h.within, le); stands = h.stands; answers = h.answers; same = h.same }
  ]

  module _ {P : Type 0} (sends : P → List CanFrame → P → Type 0) where
    -- the steps of a live bus
    abbrev Step : BusView P → Question → Answer → BusView P → Type 0
    Step b q x c = IsAskedOver sends format text node q x b c

    read_as : (begun : ℕ) (b c : BusView P) (index sub v : ℕ) → IsTrue b.goes_on → b.begun ≡ begun → Reads Step b index sub v c
        → IsHeardAs format text node (ask.Read index sub) v begun b.heard c.heard × IsTrue c.goes_on × (c.begun ≡ begun)
    read_as begun b c index sub v on at r =
        let p = r.stepped.put in
        let same : c.begun ≡ begun = p.goes_on on ∙ at in (
          heard_as (ask.Read index sub) v begun b.heard c.heard r.x r.is (within_given format text node (ask.Read index sub) r.x c.begun begun b.heard p.from c.heard (omega (arith, same)) p.on p.given),
          p.still,
          same,
        )

    -- a device that said what it is was heard, over a bus over which no boot went on
    pub heard_device : (b c : BusView P) (i : Identity) → IsFalse b.goes_on → Identifies Step b i c → IsHeardDevice format text (found_of node i)
    heard_device b c i off said =
        let p = said.device_type.put in
        let same : said.one.begun ≡ p.from = p.begins off in
        let first = within_given format text node (ask.Read 4096 0) (answer.Value i.device_type) said.one.begun p.from p.from p.from said.one.heard (omega (arith, same)) (omega arith) p.given in
        let vendor = read_as p.from said.one said.two 4120 1 i.vendor p.still same said.vendor in
        let product = read_as p.from said.two said.three 4120 2 i.product vendor.1 vendor.2 said.product in
        let revision = read_as p.from said.three said.four 4120 3 i.revision product.1 product.2 said.revision in
        let serial = read_as p.from said.four c 4120 4 i.serial revision.1 revision.2 said.serial in
        record {
          begun = p.from;
          upto = c.heard;
          there = answered i.device_type p.from said.one.heard c.heard (omega (arith, vendor.0.on, product.0.on, revision.0.on, serial.0.on)) first;
          values = record {
            first = said.one.heard;
            second = said.two.heard;
            third = said.three.heard;
            fourth = said.four.heard;
            device_type = heard_as (ask.Read 4096 0) i.device_type p.from p.from said.one.heard (answer.Value i.device_type) refl first;
            vendor = vendor.0;
            product = product.0;
            revision = revision.0;
            serial = serial.0;
          };
        }

  -- ---- what that says of a network list

  -- a value that was found was heard, and so the one that is expected
  expected_heard : (q : Question) (found expected begun from upto : ℕ) → (expected ≢ 0 → found ≡ expected)
      → IsHeardAs format text node q found begun from upto → IsHeardAs format text node q expected begun from upto
  expected_heard q found expected begun from upto same h = record {
    on = h.on;
    heard = λ some. subst (λ (n : ℕ). IsHeard format text node q (answer.Value n) begun from upto) (same some)
        (h.heard (λ none. some (sym (same some) ∙ none)));
  }

-- a device that was heard, and has the expected values, was heard with them
has_expected : (format : Format) (text : Option (List ℕ)) (net : Network) (t : Terms) (f : Found) → terms net f.id ≡ Some t
    → HasExpected t f → IsHeardDevice format text f → IsHeardAsListed format text net f.id
has_expected format text net t f listed has heard = let h = heard.values in record {
  t = t;
  begun = heard.begun;
  upto = heard.upto;
  listed = listed;
  heard = record {
    first = h.first;
    second = h.second;
    third = h.third;
    fourth = h.fourth;
    device_type = expected_heard format text f.id device_type f.device_type t.device_type heard.begun heard.begun h.first has.device_type h.device_type;
    vendor = expected_heard format text f.id vendor_id f.vendor t.vendor heard.begun h.first h.second has.vendor h.vendor;
    product = expected_heard format text f.id product_code f.product t.product heard.begun h.second h.third has.product h.product;
    revision = expected_heard format text f.id revision_number f.revision t.revision heard.begun h.third h.fourth has.revision h.revision;
    serial = expected_heard format text f.id serial_number f.serial t.serial heard.begun h.fourth heard.upto has.serial h.serial;
  };
}

-- a slave that was found as it is listed was heard so
heard_as_listed : (format : Format) (text : Option (List ℕ)) (net : Network) (found : List Found) (i : ℕ)
    → All (IsHeardDevice format text) found → IsFoundAsListed net found i → IsHeardAsListed format text net i
heard_as_listed format text net found i heard is =
    let P : ℕ → Type 0 = IsHeardAsListed format text net in
    subst P is.at
    (has_expected format text net is.t is.f (subst (λ (n : ℕ). terms net n ≡ Some is.t) (sym is.at) is.listed) is.has
    (All-contains (IsHeardDevice format text) found is.f heard is.member))

-- and so each listed slave
pub all_heard_as_listed : (format : Format) (text : Option (List ℕ)) (net : Network) (found : List Found)
    → All (IsHeardDevice format text) found → IsAsListed net found → AreHeardAsListed format text net
all_heard_as_listed format text net found heard as_listed =
    λ k d low. heard_as_listed format text net found _ heard (as_listed.each k d low)
