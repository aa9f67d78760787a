mod Known
mod Lists
