-- Each sample is what the definitions say of it.
-- Assumes nothing.
use mathlib.Core.Path.{◌≡◌, refl}
use mathlib.Core.List.{map}
use Rattle.laws.specs.Pieces.{push, split}
use Rattle.format.specs.Number.{digit_of, appended, spelt, whole, decimals, millimetres, unsigned, coordinate_of, thousandths_of, number_of, value_of}
use Rattle.format.specs.Line.{mark_with, mark_of, fields_of, are_fields, first_of, field_verdict, fields_verdict, bad_mark, too_many, bad_shape, no_room, bad_counts, after_role, after, line_verdict}
use Rattle.format.specs.File.{start, at_end, file_from, file_verdict}
use Rattle.format.specs.Records.{vertex_record, element_record, vertex_records, element_records, records_from, stored_vertices, stored_elements}
use Rattle.format.specs.FileSamples.{bytes, coordinate_read, coordinate_samples, file_read, file_samples}

pub coordinates_hold : map coordinate_read coordinate_samples ≡ coordinate_samples
unfolding bytes push split digit_of appended spelt whole decimals millimetres unsigned coordinate_of
coordinates_hold = refl

pub files_hold : map file_read file_samples ≡ file_samples
unfolding bytes push split digit_of appended spelt whole decimals millimetres unsigned coordinate_of thousandths_of number_of value_of mark_with mark_of fields_of are_fields first_of field_verdict fields_verdict bad_mark too_many bad_shape no_room bad_counts after_role after line_verdict start at_end file_from file_verdict vertex_record element_record vertex_records element_records records_from stored_vertices stored_elements
files_hold = refl
