-- That a scenario was played, by its parts.
use Rattle.std.proofs.Common.{◌≡◌, ℕ, List, Option, Some, refl, subst}
use Rattle.overlay_rules.specs.declared.entry.Record.{Record}
use Rattle.scenario_reader.specs.Plain.{PlainScenario}
use Rattle.schedule.specs.Made.{made}
use Rattle.delivery_report.specs.Report.{closings_of}
use Rattle.delivery_report.specs.Texts.{commands_of}
use Rattle.fragments.specs.Large.{large}
use Rattle.file_laws.specs.Given.{IsGiven}
use Rattle.pastry.specs.Large.{IsPlayedLarge}
use Rattle.pastry.specs.Played.{HasTold, IsPlayed}
use Rattle.fetch_cache.specs.declared.hit.Hit.{Hit}
use Rattle.fetch_cache.specs.Text.{points_text}
use Rattle.pastry.specs.Pointed.{HasPointed, IsPointed, IsToBeTold}
use Rattle.pastry.specs.Prepared.{Prepares}
use Rattle.pastry.specs.Outputs.{output_text}
use Rattle.pastry.specs.Runs.{HasPlayedLarge, HasPlayedMade}
use Rattle.pastry.specs.declared.output.Output.TheVariants as output

-- what was prepared was told, and what became of its text became of the scenario's
pub HasTold-from_prepared : {A : Type 0} (W : List ℕ → Type 0) (told : Option Record) (R : A → Type 0) (P : A → Record → Type 0)
    (text_of : A → Record → List ℕ) (s : A) (r : Record) (text : List ℕ) →
    Prepares P text_of s r text → R s → told ≡ Some r → W text → HasTold R P text_of W told
HasTold-from_prepared W told R P text_of s r text prepared from same written = record {
  scenario = s;
  record_of = r;
  from = from;
  is = prepared.is;
  same = same;
  written = subst W prepared.is_text written;
}

-- what was made was played, and the source is as it was
pub HasPlayedMade-from_made : {S : Type 0} (source : S) (nodes seed : ℕ) (W : List ℕ → Type 0) (played : Option Record) →
    HasTold (λ s. s ≡ made nodes seed) IsPlayed (output_text output.Summary) W played → HasPlayedMade source source nodes seed W played
HasPlayedMade-from_made source nodes seed W played run = record {
  scenario = run.scenario;
  record_of = run.record_of;
  from = (run.from, refl);
  is = run.is;
  same = run.same;
  written = run.written;
}

-- and of a large file
pub HasPlayedLarge-from_made : {S : Type 0} (source : S) (nodes seed size : ℕ) (W : List ℕ → Type 0) (played : Option Record) →
    HasTold (λ s. s ≡ large nodes seed size) (IsPlayedLarge seed size) (output_text (output.Large size)) W played →
    HasPlayedLarge source source nodes seed size W played
HasPlayedLarge-from_made source nodes seed size W played run = record {
  scenario = run.scenario;
  record_of = run.record_of;
  from = (run.from, refl);
  is = run.is;
  same = run.same;
  written = run.written;
}

-- what was prepared of a large scenario, with what its closings show
pub is_given : (seed size : ℕ) (s : PlainScenario) (r : Record) (text : List ℕ) → Prepares IsPlayed (output_text (output.Large size)) s r text →
    IsGiven seed size (closings_of (commands_of s) r.entries) → Prepares (IsPlayedLarge seed size) (output_text (output.Large size)) s r text
is_given seed size s r text prepared given = record { is = record { played = prepared.is; given = given }; is_text = prepared.is_text }

-- what was played with access points, and its report
pub to_be_told : (s : PlainScenario) (room : ℕ) (r : Record) (hits : List Hit) (text : List ℕ) → IsPointed s room r hits → text ≡ points_text s r hits →
    IsToBeTold s room r text
to_be_told s room r hits text is same = record { hits = hits; is = is; is_text = same }

pub HasPointed-from_told : (W : List ℕ → Type 0) (told : Option Record) (R : PlainScenario → Type 0) (room : ℕ) (s : PlainScenario) (r : Record)
    (text : List ℕ) → IsToBeTold s room r text → R s → told ≡ Some r → W text → HasPointed R room W told
HasPointed-from_told W told R room s r text prepared from same written = record {
  scenario = s;
  record_of = r;
  hits = prepared.hits;
  from = from;
  is = prepared.is;
  same = same;
  written = subst W prepared.is_text written;
}
