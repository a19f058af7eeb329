-- Figures in the text format of Prometheus.
use Rattle.std.specs.Prelude.{ℕ, List, ◌++◌, codes, string_bytes, Option, None, Some, if◌then◌else◌, ◌==◌}
use Rattle.std.specs.Fmt.{decimal}
use Rattle.scim_admin_text.specs.declared.metric_texts.MetricKind.{MetricKind}
use Rattle.scim_admin_text.specs.declared.metric_texts.MetricKind.TheVariants.{Counter, Gauge}
use Rattle.scim_admin_text.specs.declared.metric_texts.MetricTexts.{MetricTexts}

-- the text so far
abbrev pub text_of : MetricTexts → List ℕ
text_of texts = string_bytes texts.text

-- the word for a kind of metric
abbrev pub kind_name : MetricKind → List ℕ
kind_name Counter = codes "counter"
kind_name Gauge = codes "gauge"

-- the character after a backslash that stands for a character in the value of a label, if it doesn't stand for
-- itself
abbrev pub escaped : ℕ → Option ℕ
escaped c = if c == 92 then Some 92 else if c == 34 then Some 34 else if c == 10 then Some 110 else None

-- the lines before the values of a metric
abbrev pub heading : List ℕ → MetricKind → List ℕ → List ℕ
heading name kind help =
    codes "# HELP " ++ name ++ codes " " ++ help ++ codes "\n# TYPE " ++ name ++ codes " " ++ kind_name kind ++ codes "\n"

-- the line with a value of a metric
abbrev pub sample : List ℕ → ℕ → List ℕ
sample name value = name ++ codes " " ++ decimal value ++ codes "\n"
